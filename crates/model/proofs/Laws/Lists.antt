-- What certificates guarantee, for the definitions of writing and following, where what is encoded is decoded. Assumes nothing.
use Rattle.model.proofs.Words.{◌≡◌, refl, sym, ap, ◌∙◌, Bool, true, false, cond, List, [], ◌∷◌, ℕ, ◌^◌, ◌≤◌, arith, length, drop, take_at, drop_at, pow_pos, ltb, lt-ltb, ltb-true, ltb-false, Limits, Answer, refused, answered, Task, Look, Line, covered, Verdict, right, wrong, undecided, visits, look_at, walked, judged, head_bytes, ◌>>=◌, ◌>>◌, done, case_list, list_of, encode_list, list_bytes, lines_for, lines_read, written, write_read, follow_read, Each, LineOk, TaskOk, Sensible, lines_in, written_list, ClosesWithin, NotWritten, by_visits, by_verdict, by_lines, by_room, Certificates}
use Rattle.model.specs.Answer as Answer
use Rattle.model.proofs.Laws.Cover.{Follows}
use Rattle.model.proofs.Laws.Verdicts.{Passes, Means, judged-means, passes-right, right-closes, walk_ends, walk-closes-right, walk-passes, walk-fewest}
use Rattle.model.proofs.Laws.Following.{follow-passes, passes-follow}
use Rattle.model.proofs.Laws.Reading.{then-got, got-inj, answer-got, length-block, byte-bits}
use Rattle.model.proofs.Laws.ListCodec.{length-lines, length-lines_from, list_sound, list-ok}
use Rattle.model.proofs.Laws.Tasks.{answer-then, lines-is, follow-is}
use Rattle.model.proofs.Laws.Judging.{judged-in, judged-out}

-- ---- lengths

-- the lines that are read are those that stand in the bytes
pub list_count : (F : Limits) → Sensible F → (s : List ℕ) (ls : List Line) → list_of F s ≡ answered ls → length ls ≡ lines_in F s
unfolding list_of case_list ◌>>=◌ ◌>>◌ done
list_count F S s ls h =
    then-got (answer-got _ h).1 λ u p e h₁.
    then-got h₁ λ u₂ p₂ e₂ h₂.
    ap length (sym (got-inj h₂).0) ∙ length-lines_from F S s (lines_in F s) head_bytes

pub length-encode_list : (F : Limits) → Sensible F → (ls : List Line) → length (encode_list F ls) ≡ list_bytes F (length ls)
unfolding encode_list list_bytes
length-encode_list F S ls = grind (arith, length-block, length-lines)

-- ---- a list that passes is sound to write

module _ (F : Limits) (S : Sensible F) (w : ℕ) (look : ℕ → ℕ → Look) (n : ℕ) (n-fits : n ≤ 64) (w_Fits : w ≡ F.width) where
  pub follows-ok : (ls : List Line) (x : ℕ) → Follows w look n ls x → (x ≤ 2 ^ w) × Each (LineOk F) ls
  follows-ok [] x f = (omega (arith, f.0), tt)
  follows-ok (l ∷ ls) x f = grind (arith, (follows-ok ls), pow_pos, byte-bits)

-- ---- what `write_list` writes

module _ (F : Limits) (out : List ℕ) where
  pub written-answered :
      (n : ℕ) (x : Answer (List Line)) → (written F out x).answer ≡ answered n →
      (ls : List Line) × (x ≡ answered ls) × (n ≡ list_bytes F (length ls))
  unfolding written
  written-answered n x e = grind arith

  written-refused : (n q : ℕ) (x : Answer (List Line)) → (written F out x).answer ≡ refused n q → x ≡ refused n q
  unfolding written
  written-refused n q x e = grind arith

  pub refused_unchanged : (n q : ℕ) (x : Answer (List Line)) → (written F out x).answer ≡ refused n q → (written F out x).buffer ≡ out
  unfolding written
  refused_unchanged n q x e = grind arith

  -- the answer is inside the buffer, and no byte past it is changed
  pub rest_unchanged :
      Sensible F → (R : Answer Task) (grant n : ℕ) → (write_read F R grant out).answer ≡ answered n →
      (n ≤ length out) × (drop n (write_read F R grant out).buffer ≡ drop n out)
  unfolding write_read lines_read written lines_for Answer.◌>>=◌
  rest_unchanged S R grant n e = grind (arith, length-encode_list, drop_at)

-- a refusal that was not met
passed :
    (n q : ℕ) {ls : List Line} (b : Bool) (x : Answer (List Line)) → cond b (refused n q) x ≡ answered ls → (b ≡ false) × (x ≡ answered ls)
passed n q b x e = grind arith

-- what is said of a refusal's number and place, of an equal one
as-refused :
    {A : Type 0} (P : ℕ → ℕ → Type 0) (m p n q : ℕ) → ◌≡◌ {A = Answer A} (refused m p) (refused n q) → P m p → P n q
as-refused P m p n q e x = grind arith

module _ (F : Limits) (S : Sensible F) (T : Task) (fits : TaskOk F T) where
  pub n≤w : T.facts ≤ T.width
  n≤w = omega (arith, fits.facts, fits.width, S.width)

  -- the lines that are written are the walk's, and no test refused them
  chosen :
      (room grant : ℕ) (ls : List Line) (v : Verdict (List Line)) → Means T n≤w grant (walked T) v → lines_for F room v ≡ answered ls →
      (a : ℕ) × (walked T ≡ covered ls a) × (length ls ≤ F.lines) × (list_bytes F (length ls) ≤ room) × (a ≤ grant)
  unfolding lines_for
  chosen room grant ls v m e = grind arith

  -- a walk that closes, with its visits as they are counted
  closes-within : (grant a : ℕ) (ls : List Line) → walked T ≡ covered ls a → a ≤ grant → ClosesWithin T grant ls
  closes-within grant a ls e l = grind arith

  -- a verdict whose lines are not written
  not-written :
      (room grant n q : ℕ) (v : Verdict (List Line)) → Means T n≤w grant (walked T) v → lines_for F room v ≡ refused n q →
      NotWritten F T grant room n q
  unfolding lines_for
  not-written room grant n q (right ms a) m e =
      by-tests (ltb F.lines (length ms)) (ltb room (list_bytes F (length ms))) refl refl e
    where
      by-tests :
          (b c : Bool) → ltb F.lines (length ms) ≡ b → ltb room (list_bytes F (length ms)) ≡ c →
          cond b (refused 52 (length ms)) (cond c (refused 53 (length ms)) (answered ms)) ≡ refused n q → NotWritten F T grant room n q
      by-tests true c h k e =
          as-refused (NotWritten F T grant room) 52 (length ms) n q e (by_lines ms (closes-within grant a ms m.0 m.3) (ltb-true _ _ h))
      by-tests false true h k e =
          as-refused (NotWritten F T grant room) 53 (length ms) n q e
          (by_room ms (closes-within grant a ms m.0 m.3) (ltb-false F.lines (length ms) h) (ltb-true _ _ k))
      by-tests false false h k e = let z : ◌≡◌ {A = ℕ} 0 1 = cc in absurd (omega arith)
  not-written room grant n q (wrong s o a) m e =
      let v : visits (walked T) ≡ a = ap visits m.0 in
      as-refused (NotWritten F T grant room) 51 (visits (walked T)) n q (ap (λ (x : ℕ). refused 51 x) v ∙ e)
      (by_verdict (omega (arith, m.3)) (λ r. m.1.not_reached (r s m.1.start)))
  not-written room grant n q (undecided a) m e =
      as-refused (NotWritten F T grant room) 50 grant n q (ap (λ (x : ℕ). refused 50 x) (sym m.0) ∙ e) (by_visits m.1)

  -- the buffer after lines were written
  buffer :
      (grant : ℕ) (out : List ℕ) (n : ℕ) (ls : List Line) → lines_read F (answered T) grant (length out) ≡ answered ls →
      n ≡ list_bytes F (length ls) →
      (written_list F T grant out n ≡ encode_list F ls) × (drop n (write_read F (answered T) grant out).buffer ≡ drop n out)
  unfolding write_read written
  buffer grant out n ls e l = grind (arith, length-encode_list, take_at, drop_at)

  -- what was written, as the walk's lines
  pub record Wrote (grant : ℕ) (out : List ℕ) (n : ℕ) : Type 0 where
    pub lines : List Line
    pub used : ℕ
    pub closes : walked T ≡ covered lines used
    pub within : used ≤ grant
    pub few : length lines ≤ F.lines
    pub size : n ≡ list_bytes F (length lines)
    pub inside : n ≤ length out
    pub block : written_list F T grant out n ≡ encode_list F lines
    pub rest : drop n (write_read F (answered T) grant out).buffer ≡ drop n out

  pub wrote : (grant : ℕ) (out : List ℕ) (n : ℕ) → (write_read F (answered T) grant out).answer ≡ answered n → Wrote grant out n
  unfolding write_read
  wrote grant out n e =
      let (ls, x, l) = written-answered F out n (lines_read F (answered T) grant (length out)) e in
      let y = sym (lines-is F T grant (length out)) ∙ x in
      let (a, w, few, room, granted) = chosen (length out) grant ls (judged T grant) (judged-means T n≤w grant) y in
      let (list, rest) = buffer grant out n ls x l in
      record { lines = ls; used = a; closes = w; within = granted; few = few; size = l; inside = omega arith; block = list; rest = rest }

  -- a list that passes, as its lines
  followed :
      (list : List ℕ) (m : ℕ) → follow_read F (answered T) list ≡ answered m →
      (ls : List Line) × (list_of F list ≡ answered ls) × Passes T n≤w ls × (m ≡ length ls)
  followed list m e =
      answer-then (sym (follow-is F T list) ∙ e) λ ls r h.
      let (p, c) = follow-passes T.width (look_at T) T.facts ls 0 0 m h in (ls, r, p, omega arith)

  follow-lines :
      (ls : List Line) → length ls ≤ F.lines → Passes T n≤w ls →
      (follow_read F (answered T) (encode_list F ls) ≡ answered (length ls)) × (lines_in F (encode_list F ls) ≡ length ls)
  unfolding Answer.◌>>=◌
  follow-lines ls few p = grind (arith, (follows-ok F S T.width (look_at T) T.facts), (list-ok F S (encode_list F ls) ls), (follow-is F T), (passes-follow T.width (look_at T) T.facts ls 0 0), list_count)

  -- the lines of a task whose verdict is known
  lines-are :
      (grant room : ℕ) (v : Verdict (List Line)) → judged T grant ≡ v → lines_read F (answered T) grant room ≡ lines_for F room v
  lines-are grant room v e = lines-is F T grant room ∙ ap (lines_for F room) e

  closed-lines :
      (grant room : ℕ) (ls : List Line) → ClosesWithin T grant ls →
      lines_read F (answered T) grant room ≡ lines_for F room (right ls (visits (walked T)))
  closed-lines grant room ls c = lines-are grant room _ (judged-in T n≤w grant (covered ls _) c.closes c.within)

  pub lists : Certificates F T
  unfolding write_read written lines_for
  lists =
      record {
        passes_only_right = λ list m e. grind (arith, followed, passes-right, n≤w, list_count);
        passes_exactly = λ list b m. grind (arith, (followed list m), (list_sound F S list), follow-lines);
        writes_walk =
            λ r.
            let (ls, a, e) = right-closes T n≤w r in
            (ls, grind arith, λ grant out h few room. grind (arith, (lines-is F T), (judged-in T n≤w grant (covered ls a) e h), (buffer grant out (list_bytes F (length ls)) ls)));
        out_of_visits = λ grant out h. rw (lines-are grant (length out) _ (judged-out T n≤w grant h));
        not_right = λ grant out h nr. grind (arith, walk_ends, walk-closes-right, n≤w, lines-are, judged-in);
        too_many_lines = λ grant out ls c many. rw (closed-lines grant (length out) ls c, lt-ltb F.lines (length ls) many);
        short_buffer = λ grant out ls c few short. grind (arith, (closed-lines grant (length out) ls c));
        refused_for = λ grant out n q e. grind (arith, (written-refused F out n q), (not-written (length out) grant n q (judged T grant) (judged-means T n≤w grant)), (lines-is F T));
        written_is =
            λ grant out n e.
            let o = wrote grant out n e in
            let p = walk-passes T n≤w o.lines o.used o.closes in
            let ok = follows-ok F S T.width (look_at T) T.facts (omega (arith, fits.facts, S.facts)) fits.width o.lines 0 p in (
              o.lines,
              closes-within grant o.used o.lines o.closes o.within,
              o.size,
              record { sound = record { count = o.few; lines = ok.1 }; block = o.block; joined = p.0; hold = p.1 },
            );
        written_passes = λ grant out n e. let o = wrote grant out n e in grind (arith, (follow-lines o.lines o.few), (walk-passes T n≤w o.lines o.used o.closes), o.block);
        written_least = λ grant out n e list m f. let o = wrote grant out n e in grind (arith, (follow-lines o.lines o.few), (walk-passes T n≤w o.lines o.used o.closes), o.block, (followed list m f), (walk-fewest T n≤w o.lines o.used o.closes), (list_count F S list));
      }
