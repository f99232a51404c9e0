-- The members of a group, read one after the other.
use Rattle.std.proofs.Common.{◌≡◌, ℕ, zero, suc, ◌+◌, ◌<◌, ◌≤◌, ◌-◌, List, ◌++◌, codes, Vec, Global, Err, true, false, refl, sym, ap, ap₂, ◌∙◌, subst, append_assoc, arith, rules}
use Rattle.std.specs.Str.{bytes_eq}
use Rattle.model.specs.Formula.{Formula, Formulas, none, more}
use Rattle.model.specs.FormulaBytes.{formula_bytes, member_bytes, member_count}
use Rattle.model.specs.Merging.{joined}
use Rattle.words.specs.Words.{word, after_word, left_at}
use Rattle.make.specs.Parsed.{Parsed, bad, got, Parser, and_then, ◌>>=◌, done}
use Rattle.make.specs.FormulaText.{members}
use Rattle.words.specs.declared.complaint.Complaint.{Complaint}
use Rattle.words.specs.declared.complaint.Complaint.TheVariants.{TooManyMembers}
use Rattle.make.specs.declared.formulas.Counted.{Counted}
use Rattle.words.specs.declared.complaint.MakeError.{MakeError}
use Rattle.words.specs.declared.complaint.MakeError.TheVariants.{Text, OutOfMemory}
use Rattle.make.specs.Reads.{Gives, Reads}
use Rattle.make.specs.Views.{AreMembers, IsFormula}
use Rattle.make.proofs.Parsing.{mapped}

-- ---- one member after others

pub joined-none : (ms : Formulas) → joined ms none ≡ ms
joined-none none = refl
joined-none (more m ms) = ap (more m) (joined-none ms)

pub joined-more : (ms : Formulas) (m : Formula) (ns : Formulas) → joined ms (more m ns) ≡ joined (joined ms (more m none)) ns
joined-more none m ns = refl
joined-more (more k ms) m ns = ap (more k) (joined-more ms m ns)

pub member_count-joined : (ms : Formulas) (m : Formula) → member_count (joined ms (more m none)) ≡ member_count ms + 1
member_count-joined none m = refl
member_count-joined (more k ms) m = let e = member_count-joined ms m in omega (arith, e)

pub member_bytes-joined : (ms : Formulas) (m : Formula) → member_bytes (joined ms (more m none)) ≡ member_bytes ms ++ formula_bytes m
unfolding member_bytes
member_bytes-joined none m = search rules
member_bytes-joined (more k ms) m = rw (member_bytes-joined ms m) (sym (append_assoc (formula_bytes k) (member_bytes ms) (formula_bytes m)))

-- what a parser gives after these members
abbrev pub after : Formulas → Parsed Formulas → Parsed Formulas
after ms r = mapped (joined ms) r

pub after-none : (r : Parsed Formulas) → r ≡ after none r
after-none (bad c q) = refl
after-none (got a t) = refl

pub after-more : (ms : Formulas) (m : Formula) (r : Parsed Formulas) → after ms (after (more m none) r) ≡ after (joined ms (more m none)) r
after-more ms m (bad c q) = refl
after-more ms m (got ns t) = ap (λ x. got x t) (joined-more ms m ns)

-- ---- the steps of the reading

module _ (facts : List (List ℕ)) (one : Parser Formula) (t : List ℕ) where
  pub members-end : (n : ℕ) → bytes_eq (word t) (codes ")") ≡ true → members facts one n t ≡ got none (after_word t)
  unfolding members
  members-end zero shut = rw shut refl
  members-end (suc n) shut = rw shut refl

  pub members-over : bytes_eq (word t) (codes ")") ≡ false → members facts one zero t ≡ bad TooManyMembers (left_at t)
  unfolding members
  members-over opened = rw opened refl

  pub members-bad :
      (n : ℕ) (c : Complaint) (q : ℕ) → 0 < n → bytes_eq (word t) (codes ")") ≡ false → one t ≡ bad c q → members facts one n t ≡ bad c q
  unfolding members and_then
  members-bad zero c q some opened wrong = absurd (omega arith)
  members-bad (suc n) c q some opened wrong = rw (opened, wrong) refl

  pub members-more :
      (n k : ℕ) (m : Formula) (u : List ℕ) → n ≡ suc k → bytes_eq (word t) (codes ")") ≡ false → one t ≡ got m u →
      members facts one n t ≡ after (more m none) (members facts one k u)
  unfolding members and_then ◌>>=◌ done
  members-more n k m u more_left opened read = subst (λ x. members facts one x t ≡ after (more m none) (members facts one k u)) (sym more_left) (rw (opened, read) (last (members facts one k u)))
    where
      last : (r : Parsed Formulas) → and_then r (λ ms. done (more m ms)) ≡ after (more m none) r
      last (bad c q) = refl
      last (got a v) = refl

-- the members that have been read, and that the rest of the reading gives the rest of them
pub record ReadSoFar (facts : List (List ℕ)) (one : Parser Formula) (begin now : List ℕ) (c : Counted) : Type 0 where
  pub before : Formulas
  pub are : AreMembers before c
  pub few : c.count ≤ 255
  pub read : members facts one 255 begin ≡ after before (members facts one (255 - c.count) now)

module _ (facts : List (List ℕ)) (one : Parser Formula) (begin now w : List ℕ) (c : Counted) (first : w ≡ word now) (so_far : ReadSoFar facts one begin now c) where
  pub read-all : (u : List ℕ) → u ≡ after_word now → bytes_eq w (codes ")") ≡ true → Gives (members facts one 255 begin) c u AreMembers
  read-all u rest shut =
      let e : bytes_eq (word now) (codes ")") ≡ true = subst (λ x. bytes_eq x (codes ")") ≡ true) first shut in
      record {
        value = so_far.before;
        read = so_far.read ∙ (ap (after so_far.before) (members-end facts one now (255 - c.count) e) ∙ (ap (λ x. got x (after_word now)) (joined-none so_far.before) ∙ ap (got so_far.before) (sym rest)));
        is = so_far.are;
      }

  module _ (opened : bytes_eq w (codes ")") ≡ false) where
    not_shut : bytes_eq (word now) (codes ")") ≡ false
    not_shut = subst (λ x. bytes_eq x (codes ")") ≡ false) first opened

    pub read-over : c.count ≡ 255 → members facts one 255 begin ≡ bad TooManyMembers (left_at now)
    read-over full =
        let none_left : 255 - c.count ≡ 0 = omega arith in
        so_far.read ∙ ap (after so_far.before) (ap (λ n. members facts one n now) none_left ∙ members-over facts one now not_shut)

    module _ (room : c.count ≡ 255 → ⊥) where
      pub read-wrong : {V W : Type 0} (Is : Formula → V → Type 0) (Js : Formulas → W → Type 0) (e : MakeError) (u v : List ℕ) → Reads (one now) (Err e) u Is → Reads (members facts one 255 begin) (Err e) v Js
      read-wrong Is Js (Text k q) u v wrong =
          let few = so_far.few in
          so_far.read ∙ ap (after so_far.before) (members-bad facts one now (255 - c.count) k q (omega arith) not_shut wrong)
      read-wrong Is Js OutOfMemory u v wrong = tt

      pub read-more :
          (v : Vec ℕ Global) (d : Counted) (u : List ℕ) → Gives (one now) v u IsFormula → d.count ≡ c.count + 1 → d.bytes.items ≡ c.bytes.items ++ v.items →
          ReadSoFar facts one begin u d
      read-more v d u given counted put =
          let few = so_far.few in
          let step = members-more facts one now (255 - c.count) (255 - d.count) given.value u (omega arith) not_shut given.read in
          record {
            before = joined so_far.before (more given.value none);
            are = record {
              count = counted ∙ (ap (λ n. n + 1) so_far.are.count ∙ sym (member_count-joined so_far.before given.value));
              bytes = put ∙ (ap₂ ◌++◌ so_far.are.bytes given.is ∙ sym (member_bytes-joined so_far.before given.value));
            };
            few = omega arith;
            read = so_far.read ∙ (ap (after so_far.before) step ∙ after-more so_far.before given.value _);
          }
