-- The walk as a tree of cases, and lists of lines as covers of all numbers: what is closed is covered, the walk's lines pass, and no
-- list that passes has fewer. The width, the fact count and the look are parameters. Assumes nothing.
use Rattle.model.proofs.Words.{◌≡◌, refl, sym, ap, ◌∙◌, true, List, [], ◌∷◌, ◌++◌, append_assoc, ℕ, zero, suc, ◌+◌, ◌-◌, ◌*◌, ◌/◌, ◌%◌, ◌^◌, ◌≤◌, ◌<◌, zero-le, div-add-mod', div-eq_of_lt-le, lt_of_mul-lt-mul_right, mul_assoc, pow-suc, mul-mod_left, arith, dec_le, dec_lt, length, length-append, pow-add, pow_pos, shr-shr, bit, Kind, Look, closed, opened, Line, Walked, covered, failed, line, join, walk_from, walk, claims, Each, LineHolds, Joined}

-- ---- v is a multiple of what a case of k facts covers

pub record Block (w k v : ℕ) : Type 0 where
  pub q : ℕ
  pub is : v ≡ q * 2 ^ (w - k)

pub pow-split : (w k k' : ℕ) → k ≤ k' → k' ≤ w → 2 ^ (w - k) ≡ 2 ^ (k' - k) * 2 ^ (w - k')
pow-split w k k' h l = ap (λ (x : ℕ). 2 ^ x) (omega arith) ∙ pow-add 2 (k' - k) (w - k')

pub pow-half : (w k : ℕ) → k < w → 2 ^ (w - k) ≡ 2 ^ (w - suc k) + 2 ^ (w - suc k)
pow-half w k h = grind (arith, (pow-suc 2 (w - suc k)))

pub rescale : (w k k' v : ℕ) → k ≤ k' → k' ≤ w → Block w k v → Block w k' v
rescale w k k' v h l b =
    record { q = b.q * 2 ^ (k' - k); is = b.is ∙ ap (λ (x : ℕ). b.q * x) (pow-split w k k' h l) ∙ sym (mul_assoc b.q _ _) }

pub next-block : (w k v : ℕ) → Block w k v → Block w k (v + 2 ^ (w - k))
next-block w k v b = record { q = suc b.q; is = ap (λ (x : ℕ). x + 2 ^ (w - k)) b.is ∙ omega arith }

pub block-of-mod : (w k v : ℕ) → v % 2 ^ (w - k) ≡ 0 → Block w k v
block-of-mod w k v e = record { q = v / 2 ^ (w - k); is = omega (arith, div-add-mod' v (2 ^ (w - k))) }

pub mod-of-block : (w k v : ℕ) → Block w k v → v % 2 ^ (w - k) ≡ 0
mod-of-block w k v b = rw b.is (mul-mod_left b.q (2 ^ (w - k)))

pub root-block : (w : ℕ) → Block w 0 0
root-block w = record { q = 0; is = omega arith }

pub root-span : (w : ℕ) → 2 ^ (w - 0) ≡ 2 ^ w
root-span w = ap (λ (x : ℕ). 2 ^ x) (omega arith)

-- the numbers from v on that a block covers agree with v in the first k facts
pub agree : (w k v s i : ℕ) → k ≤ w → Block w k v → v ≤ s → s < v + 2 ^ (w - k) → i < k → bit w s i ≡ bit w v i
unfolding bit
agree w k v s i l b h h' j =
    let e : w - suc i ≡ (w - k) + (k - suc i) = omega arith in
    grind (arith, e, (shr-shr s (w - k) (k - suc i)), (shr-shr v (w - k) (k - suc i)), (div-eq_of_lt-le {k = b.q} (2 ^ (w - k))))

-- of two blocks of one size
under : (w k v v' : ℕ) → Block w k v → Block w k v' → v' < v + 2 ^ (w - k) → v' ≤ v
under w k v v' b c h = grind (arith, lt_of_mul-lt-mul_right)

-- what is claimed is of a kind
pub claimed : (d : ℕ) (l : Look) → claims d l ≡ true → (κ : Kind) × (l ≡ closed κ) × (d ≤ 1)
claimed d l e = grind arith

-- ---- lists of lines

module _ (w : ℕ) (look : ℕ → ℕ → Look) (n : ℕ) where
  -- the lines follow one another from x to the end, and each holds
  abbrev pub Follows : List Line → ℕ → Type 0
  Follows ls x = Joined w ls x × Each (LineHolds w look n) ls

  -- how many lines begin at x or later, and that one begins at x
  abbrev pub from : ℕ → List Line → ℕ
  from x [] = 0
  from x (l ∷ ls) = (1 - (x - l.value)) + from x ls

  abbrev pub Starts : ℕ → List Line → Type 0
  Starts x ls = from (suc x) ls < from x ls

  from_le : (x y : ℕ) → x ≤ y → (ls : List Line) → from y ls ≤ from x ls
  from_le x y h [] = omega arith
  from_le x y h (l ∷ ls) = omega (arith, from_le x y h ls)

  from-length : (ls : List Line) → from 0 ls ≤ length ls
  from-length [] = zero-le
  from-length (l ∷ ls) = omega (arith, from-length ls)

  -- each number from x on is covered by a line
  pub covering :
      {C : Type 0} (ls : List Line) (x : ℕ) → Follows ls x → (s : ℕ) → x ≤ s → s < 2 ^ w →
      ((k v : ℕ) (κ : Kind) → Starts v ls → k ≤ n → Block w k v → look k v ≡ closed κ → v ≤ s → s < v + 2 ^ (w - k) → C) → C
  covering [] x f s l h c = absurd (omega arith)
  covering (m ∷ ls) x f s l h c =
      elim (dec_lt s (x + 2 ^ (w - m.k))) [
        | yes g ↦ grind (arith, claimed, block-of-mod, from_le)
        | no g ↦ covering ls (x + 2 ^ (w - m.k)) (f.0.1, f.1.1) s (omega arith) h (λ k v κ st. c k v κ (omega (arith, st)))
      ]

  -- ---- what the walk met, as a tree

  pub data Closes : ℕ → ℕ → List Line → ℕ → Type 0 where
    leaf : {k v : ℕ} {κ : Kind} → k ≤ n → Block w k v → look k v ≡ closed κ → Closes k v (line κ k v ∷ []) 1
    node : {k v a b : ℕ} {ls ms : List Line} → k < n → Block w k v → look k v ≡ opened → Closes (suc k) v ls a
        → Closes (suc k) (v + 2 ^ (w - suc k)) ms b → Closes k v (ls ++ ms) (suc (a + b))

  pub data Fails : ℕ → ℕ → ℕ → Type 0 where
    here : {k v : ℕ} → k ≡ n → Block w k v → v < 2 ^ w → look k v ≡ opened → Fails k v v
    left : {k v s : ℕ} → Fails (suc k) v s → Fails k v s
    right : {k v s a : ℕ} {ls : List Line} → Closes (suc k) v ls a → Fails (suc k) (v + 2 ^ (w - suc k)) s → Fails k v s

  abbrev pub Traced : ℕ → ℕ → Walked → Type 0
  Traced k v (covered ls a) = Closes k v ls a
  Traced k v (failed s a) = Fails k v s

  joined :
      (k v : ℕ) → k < n → Block w k v → look k v ≡ opened → (r t : Walked) → Traced (suc k) v r →
      Traced (suc k) (v + 2 ^ (w - suc k)) t → Traced k v (join r t)
  joined k v h b e x t y z = grind (arith, node, right, left)

  module _ (n≤w : n ≤ w) where
    traced :
        (d : ℕ) (l : Look) (k v : ℕ) → k + d ≡ n → Block w k v → v + 2 ^ (w - k) ≤ 2 ^ w → look k v ≡ l →
        Traced k v (walk_from w look d l k v)
    unfolding walk_from
    traced zero l k v f b h e = grind (arith, leaf, here, pow_pos)
    traced (suc d) l k v f b h e = grind (arith, (traced d), rescale, pow-half, joined, next-block, leaf)

    pub walk-traced : Traced 0 0 (walk w look n)
    unfolding walk
    walk-traced = traced n _ 0 0 (omega arith) (root-block w) (omega (arith, root-span w)) refl

    -- visits are twice the lines less one
    pub closes-visits : {k v a : ℕ} {ls : List Line} → Closes k v ls a → suc a ≡ 2 * length ls
    closes-visits (leaf h b e) = refl
    closes-visits (node {ls} {ms} h b e x y) = grind (arith, length-append, (closes-visits x), (closes-visits y))

    -- the walk's lines pass
    pub closes-follows :
        {k v a : ℕ} {ls : List Line} → Closes k v ls a → (rest : List Line) → Follows rest (v + 2 ^ (w - k)) → Follows (ls ++ rest) v
    closes-follows (leaf {k} {v} {κ} h b e) rest g = grind (arith, mod-of-block)
    closes-follows (node {k} {v} {ls} {ms} h b e x y) rest g = grind (arith, (closes-follows x (ms ++ rest)), (closes-follows y rest), pow-half, append_assoc)

    module _ (Good : ℕ → Type 0)
        (good : (k v s : ℕ) (κ : Kind) → k ≤ n → Block w k v → look k v ≡ closed κ → v ≤ s → s < v + 2 ^ (w - k) → Good s) where
      closes-good : {k v a : ℕ} {ls : List Line} → Closes k v ls a → (s : ℕ) → v ≤ s → s < v + 2 ^ (w - k) → Good s
      closes-good (leaf {k} {v} {κ} h b e) s l g = good k v s κ h b e l g
      closes-good (node {k} {v} h b e x y) s l g = grind (arith, (closes-good x s l), (closes-good y s), pow-half)

      pub fails-at :
          {k v s : ℕ} → Fails k v s → ((t : ℕ) → t < v → Good t) →
          (look n s ≡ opened) × Block w n s × (s < 2 ^ w) × ((t : ℕ) → t < s → Good t)
      fails-at (here i b h e) g = (rw i at e, rw i at b, h, g)
      fails-at (left x) g = fails-at x g
      fails-at (right {k} {v} x y) g = grind (arith, (fails-at y), (closes-good x))

    begins-at-0 : (ls : List Line) → Follows ls 0 → Starts 0 ls
    begins-at-0 [] f = absurd (omega (arith, pow_pos w))
    begins-at-0 (l ∷ ls) f = omega (arith, f.0.0, from_le 0 1 (omega arith) ls)

    module _ (all : List Line) (fol : Follows all 0)
        (shut : (k v k' v' : ℕ) (κ : Kind) → k ≤ k' → k' ≤ n → Block w k v → v ≤ v' → v' < v + 2 ^ (w - k) →
        look k v ≡ closed κ → look k' v' ≡ opened → ⊥) where
      -- a line that covers the middle of an open case begins there
      mid-starts :
          (k v : ℕ) → k < n → Block w k v → look k v ≡ opened → v + 2 ^ (w - suc k) < 2 ^ w → Starts (v + 2 ^ (w - suc k)) all
      mid-starts k v kn b e h =
          covering all 0 fol (v + 2 ^ (w - suc k)) zero-le h λ k' v' κ st k'n b' e' lo hi.
          elim (dec_lt v' (v + 2 ^ (w - suc k))) [
            | yes g ↦
                -- a block around the middle holds all of the case
                elim (dec_le k' k) [
                  | yes l ↦ grind (arith, (under w k v v' b (rescale w k' k v' l (omega arith) b')), (rescale w k' k v' l), (pow-half w k))
                  | no l ↦
                      let m = next-block w (suc k) v (rescale w k (suc k) v (omega arith) (omega arith) b) in
                      grind (arith, (under w k' v' (v + 2 ^ (w - suc k)) b' (rescale w (suc k) k' (v + 2 ^ (w - suc k)) (omega arith) (omega arith) m) hi))
                ]
            | no g ↦ let i : v' ≡ v + 2 ^ (w - suc k) = omega arith in rw i at st
          ]

      -- no list has fewer lines
      least :
          {k v a : ℕ} {ls : List Line} → Closes k v ls a → v + 2 ^ (w - k) ≤ 2 ^ w → Starts v all →
          length ls + from (v + 2 ^ (w - k)) all ≤ from v all
      least (leaf {k} {v} _ b e) h st = omega (arith, from_le (suc v) (v + 2 ^ (w - k)) (omega (arith, pow_pos (w - k))) all)
      least (node {k} {v} {ls} {ms} kn b e x y) h st = grind (arith, (least x), (least y), pow-half, mid-starts, length-append)

      pub fewest : {a : ℕ} {ls : List Line} → Closes 0 0 ls a → length ls ≤ length all
      fewest x = omega (arith, least x (omega (arith, root-span w)) (begins-at-0 all fol), from-length all)
