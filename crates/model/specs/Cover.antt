-- What the lines of a case list cover together, as a set of numbers, and the end of it, which following keeps as a running value. The width
-- is a parameter.
use Rattle.std.specs.Prelude.{◌≡◌, ◌↔◌, ◌⊎◌, List, [], ◌∷◌, ℕ, suc, ◌+◌, ◌-◌, ◌^◌, ◌≤◌, ◌<◌, length, take, drop, eqb}
use Rattle.model.specs.Answer.{Answer, refused, answered, ◌>>=◌}
use Rattle.model.specs.Walk.{Look, Line}
use Rattle.model.specs.CaseList.{refuse_at, ends, fault, follow}

-- the end of a set of numbers: each of them is below it, and it is the least number of which that is so; the end of no numbers is 0
pub record IsEnd (S : ℕ → Type 0) (e : ℕ) : Type 0 where
  pub above : (x : ℕ) → S x → x < e
  pub least : (d : ℕ) → ((x : ℕ) → S x → x < d) → e ≤ d

module _ (w : ℕ) where
  -- the line covers the number x: from its value on, as many as its open facts have values
  pub record Covers (l : Line) (x : ℕ) : Type 0 where
    pub begun : l.value ≤ x
    pub not_past : x < l.value + 2 ^ (w - l.k)

  -- cover: the numbers that one of the lines covers
  abbrev pub CoveredBy : List Line → ℕ → Type 0
  CoveredBy [] x = ⊥
  CoveredBy (l ∷ ls) x = Covers l x ⊎ CoveredBy ls x

  -- no number is covered twice: none by a line and by one after it
  abbrev pub CoveredOnce : List Line → Type 0
  CoveredOnce [] = Unit {0}
  CoveredOnce (l ∷ ls) = ((x : ℕ) → Covers l x → CoveredBy ls x → ⊥) × CoveredOnce ls

  -- e is the end of what the lines cover together; and that is every number below it, each once
  pub record CoversTo (ls : List Line) (e : ℕ) : Type 0 where
    pub is_end : IsEnd (CoveredBy ls) e
    pub exactly : (x : ℕ) → (x < e) ↔ CoveredBy ls x
    pub once : CoveredOnce ls

module _ (w : ℕ) (look : ℕ → ℕ → Look) (n : ℕ) where
  -- running end: the running value over lines from number i on, before which it is x: the first fault at its line, or the value after the last of
  -- them
  unfoldable pub cover_end : List Line → ℕ → ℕ → Answer ℕ
  cover_end [] i x = answered x
  cover_end (l ∷ ls) i x = let rest = cover_end ls (suc i) (x + 2 ^ (w - l.k)) in refuse_at (fault w look n l x) i rest

  -- the first i of these lines are without a fault: following them all is refused at none of these
  abbrev pub WithoutFault : List Line → ℕ → Type 0
  WithoutFault ls i = (f p : ℕ) → follow w look n ls 0 0 ≡ refused f p → i ≤ p

  -- after the first i lines: the running value, from which what is left is followed, is the end of what they cover together
  pub record EndAfter (ls : List Line) (i : ℕ) : Type 0 where
    pub end : ℕ
    pub running : cover_end (take i ls) 0 0 ≡ answered end
    pub continues : i ≤ length ls → follow w look n ls 0 0 ≡ follow w look n (drop i ls) i end
    pub covers : CoversTo w (take i ls) end

  -- the fault f of line i, the first: the lines before have none, and it should begin at the running value after them
  pub record FaultAt (ls : List Line) (f i : ℕ) : Type 0 where
    pub end : ℕ
    pub before : cover_end (take i ls) 0 0 ≡ answered end
    pub line : Line
    pub after : List Line
    pub stands : drop i ls ≡ line ∷ after
    pub is : fault w look n line end ≡ f
    pub some : 0 < f

  -- running end theorem: what the running value is, of any lines whatever
  pub record RunningEnd : Type 0 where
    -- after lines without a fault it is the end of what they cover together
    pub is_end : (ls : List Line) (i : ℕ) → WithoutFault ls i → EndAfter ls i
    pub at_fault : (ls : List Line) (f i : ℕ) → cover_end ls 0 0 ≡ refused f i → FaultAt ls f i
    -- following is the running value, and one test of it after the last line: no answer, number or place is another
    pub same_answers : (ls : List Line) → follow w look n ls 0 0 ≡ cover_end ls 0 0 >>= λ e. ends (eqb e (2 ^ w)) (length ls)
    -- so a list that passes covers every number of the width, each once
    pub passes_whole : (ls : List Line) (m : ℕ) → follow w look n ls 0 0 ≡ answered m → CoversTo w ls (2 ^ w)
    -- and a line after lines that cover all of them is at fault, whatever it claims: by its kind, by the facts that it fixes, by a bit past them, or
    -- by where it begins
    pub past_the_whole :
        (l : Line) → l.value < 2 ^ w →
        (fault w look n l (2 ^ w) ≡ 65) ⊎ ((fault w look n l (2 ^ w) ≡ 66) ⊎ ((fault w look n l (2 ^ w) ≡ 67) ⊎ (fault w look n l (2 ^ w) ≡ 68)))
