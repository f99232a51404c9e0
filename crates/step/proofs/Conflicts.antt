-- Facts that are set and cleared at once: the entries are gone through in order, and the lanes that are left are those in which no fact
-- that was passed is in conflict. Assumes nothing.
use Rattle.std.proofs.Common.{◌≡◌, refl, sym, ap, ◌∙◌, Bool, true, false, ◌&&◌, List, ℕ, suc, ◌+◌, ◌-◌, ◌≤◌, ◌<◌, min, max, arith, below_more, length, bit_and, lt-ltb, le-ltb}
use native.Mathlib.Decide.{dec_lt, ℕ_discrete}
use lib.Bits.{and_le_l}
use Rattle.model.specs.{Limits.max_facts, Kleene.Kleene, Kleene.No, Kleene.both, Kleene.denied, Kleene.is_yes, Kleene.three}
use Rattle.model.specs.{Formula.Literal, Formula.fact, Formula.denial, Formula.any, Formula.none, Formula.eval, FormulaBytes.literal_byte, FormulaBytes.literal_of}
use Rattle.model.specs.{Action.Effect, Action.Action, Action.condition_of, Action.every, Action.exclusive, Run.lowest_false, Case.flag, WellFormed.Declared}
use Rattle.model.specs.Planes.{lane_bit, sure_bit}
use Rattle.fields.specs.ActionBytes.{Rising}
use Rattle.model.proofs.Laws.Agreement.{by_row}
use Rattle.model.proofs.Laws.Conflicts.{every-at, every-last, every-same, every-all, lowest-is, lowest-false}
use Rattle.model.proofs.Laws.Planes.{low_bit, bit-small, bit-and, bit-zero}
use Rattle.model.proofs.Laws.FormulaCodec.{literal-ok}
use Rattle.cases.specs.{declared.value.Value.Value, Cases.value_at}
use Rattle.cases.proofs.Lanes.{lanes-of}
use Rattle.step.specs.Conditions.{entry_at}
use Rattle.step.proofs.Entries.{byte_at, declared-at, rises, rises-from, condition-at, condition-none}

-- where a value is yes
pub sure-yes : (v : Value) (j : ℕ) → j < 64 → lane_bit j v.sure ≡ flag (is_yes (value_at v j))
sure-yes v j l = ((lanes-of v.some v.sure v.consistent).lane j l).is_sure ∙ by_row sure_bit (λ t. flag (is_yes t)) refl (value_at v j)

pub flag-and : (a b : Bool) → flag (a && b) ≡ min (flag a) (flag b)
flag-and a b = grind arith

pub flag_true : (b : Bool) → (flag b ≡ 0 → ⊥) → b ≡ true
flag_true b h = grind arith

pub flag-false : (b : Bool) → flag b ≡ 0 → b ≡ false
flag-false b e = grind arith

flag-fewer : (m n : ℕ) (p : ℕ → Bool) → m ≤ n → flag (every n p) ≤ flag (every m p)
flag-fewer m n p l = go (every n p) refl
  where
    go : (b : Bool) → every n p ≡ b → flag b ≤ flag (every m p)
    go true h = rw (every-all m p (λ i b. every-at n p h i (omega arith))) (omega arith)
    go false h = omega arith

byte-declared : (facts : ℕ) (l : Literal) → Declared facts l → literal_byte l < facts + 64
byte-declared facts l d = grind arith

-- ---- one fact

-- a declared literal, by its byte
literal-by : (facts b : ℕ) (l : Literal) → facts ≤ max_facts → Declared facts l → literal_byte l ≡ b → l ≡ literal_of b
literal-by facts b l h d e = sym (literal-ok facts h l d).1 ∙ ap literal_of e

module _ (a : Action) (v : List Kleene) (f : ℕ) where
  abbrev es : List Effect
  es = a.effects

  not-cleared : ((k : ℕ) → k < length es → byte_at es k ≡ f + 64 → ⊥) → exclusive three a v f ≡ true
  unfolding exclusive eval
  not-cleared n =
      rw (condition-none es (denial f) _ (λ k l z. n k l (ap literal_byte z)))
      (by_row (λ x. is_yes (denied (both x No))) (λ x. true) refl (eval three v (condition_of (fact f) es)))

  not_set : ((k : ℕ) → k < length es → byte_at es k ≡ f → ⊥) → exclusive three a v f ≡ true
  unfolding exclusive eval
  not_set n = rw (condition-none es (fact f) _ (λ k l z. n k l (ap literal_byte z)))

  -- entry i sets it, and entry e clears it
  set-and-cleared :
      (facts : ℕ) → facts ≤ max_facts → Rising facts 0 es → (i e : ℕ) → i < length es → e < length es → f < 64 → byte_at es i ≡ f → byte_at es e ≡ f + 64 →
      exclusive three a v f ≡ is_yes (denied (both (eval three v (entry_at es i).condition) (eval three v (entry_at es e).condition)))
  unfolding exclusive literal_of
  set-and-cleared facts h ok i e x y m b d =
      let j = literal-by facts f (entry_at es i).literal h (declared-at facts 0 es i ok x).0 b in
      let k = literal-by facts (f + 64) (entry_at es e).literal h (declared-at facts 0 es e ok y).0 d in
      let z : f + 64 - 64 ≡ f = omega arith in
      rw (← condition-at facts 0 es i (any none) ok x, ← condition-at facts 0 es e (any none) ok y, j, k, lt-ltb f 64 m, le-ltb (f + 64) 64 (omega arith), z)

-- ---- facts that no entry names are in no conflict

module _ (m n : ℕ) (l : m ≤ n) (a : Action) (ok : Rising m 0 a.effects) (v : List Kleene) where
  pub every-wider : every n (exclusive three a v) ≡ every m (exclusive three a v)
  every-wider =
      every-same m n (exclusive three a v) l λ f u w.
      not-cleared a v f λ k d y. omega (arith, byte-declared m (entry_at a.effects k).literal (declared-at m 0 a.effects k ok d).0)

  pub lowest-wider : every m (exclusive three a v) ≡ false → lowest_false m (exclusive three a v) ≡ lowest_false n (exclusive three a v)
  lowest-wider e =
      let L = lowest-false m (exclusive three a v) e in
      sym (lowest-is n (exclusive three a v) (lowest_false m (exclusive three a v)) (record { below = omega (arith, L.below); here = L.here; before = L.before })).1

-- ---- all entries

module _ (facts : ℕ) (a : Action) (case : ℕ → List Kleene) (alive : ℕ) where
  abbrev byte : ℕ → ℕ
  byte k = byte_at a.effects k

  abbrev q : ℕ → ℕ → Bool
  q j = exclusive three a (case j)

  -- what is known of the entries before number e: the facts below `limit` were passed, and these lanes are left; and the entries before
  -- number i set no fact that is yet to be cleared
  pub record Passed (i e lanes : ℕ) : Type 0 where
    pub among : lanes ≤ alive
    pub limit : ℕ
    pub few : limit ≤ facts
    pub bits : (j : ℕ) → j < 64 → lane_bit j lanes ≡ min (lane_bit j alive) (flag (every limit (q j)))
    pub before : (k : ℕ) → k < e → byte k < limit + 64
    pub from : (k : ℕ) → e ≤ k → k < length a.effects → 64 ≤ byte k → limit + 64 ≤ byte k
    pub behind : i ≤ e
    pub sets : (k : ℕ) → k < i → (l : ℕ) → e ≤ l → l < length a.effects → byte k + 64 < byte l

  pub passed-none : Passed 0 0 alive
  unfolding every
  passed-none =
      record {
        among = omega arith;
        limit = 0;
        few = omega arith;
        bits = λ j l. omega (arith, bit-small j alive);
        before = λ k l. absurd (omega arith);
        from = λ k l m b. b;
        behind = omega arith;
        sets = λ k l. absurd (omega arith);
      }

  module _ (i e lanes : ℕ) (P : Passed i e lanes) where
    pub passed-all : length a.effects ≤ e → (j : ℕ) → j < 64 → lane_bit j lanes ≡ min (lane_bit j alive) (flag (every facts (q j)))
    passed-all all j l =
        P.bits j l ∙ rw (every-same P.limit facts (q j) P.few (λ f u v. not-cleared a (case j) f (λ k d y. omega (arith, P.before k (omega arith))))) refl

    -- the next one
    module _ (ok : Rising facts 0 a.effects) (more : e < length a.effects) where
      order : (k m : ℕ) → k ≤ m → m < length a.effects → byte k ≤ byte m
      order k m = rises-from facts a.effects k m ok

      within : byte e < facts + 64
      within = byte-declared facts (entry_at a.effects e).literal (declared-at facts 0 a.effects e ok more).0

      -- no entry clears the facts between
      between : (j g : ℕ) → P.limit ≤ g → g + 64 < byte e → q j g ≡ true
      between j g l m =
          not-cleared a (case j) g λ k d y. elim (dec_lt k e) [ yes u ↦ omega (arith, P.before k u) | no u ↦ omega (arith, order e k (omega arith) d) ]

      one_more : 64 ≤ byte e → (j : ℕ) → flag (every (suc (byte e - 64)) (q j)) ≡ min (flag (every P.limit (q j))) (flag (q j (byte e - 64)))
      one_more l j =
          let m = P.from e (omega arith) more l in
          rw (every-last (byte e - 64) (q j), flag-and, every-same P.limit (byte e - 64) (q j) (omega arith) (λ g u v. between j g u (omega arith)))

      -- it was passed, and these lanes are left: where it clears a fact, those in which that is not in conflict
      passed :
          (lanes' : ℕ) → lanes' ≤ lanes → (byte e < 64 → lanes' ≡ lanes) →
          (64 ≤ byte e → (j : ℕ) → j < 64 → lane_bit j lanes' ≡ min (lane_bit j lanes) (flag (q j (byte e - 64)))) → Passed i (e + 1) lanes'
      passed lanes' fewer low high =
          let limit = max P.limit (suc (byte e) - 64) in
          record {
            among = omega (arith, P.among);
            limit = limit;
            few = omega (arith, within, P.few);
            bits =
                λ j m.
                elim (dec_lt (byte e) 64) [
                  | yes l ↦ let z : limit ≡ P.limit = omega arith in rw (z, low l) (P.bits j m)
                  | no l ↦
                      let z : limit ≡ suc (byte e - 64) = omega (arith, P.from e (omega arith) more) in
                      rw z (high (omega arith) j m ∙ rw (P.bits j m, one_more (omega arith) j) (omega arith))
                ];
            before = λ k d. omega (arith, order k e (omega arith) more);
            from = λ k d u v. omega (arith, P.from k (omega arith) u v, rises facts 0 a.effects e k ok (omega arith) u);
            behind = omega (arith, P.behind);
            sets = λ k d m u. P.sets k d m (omega arith);
          }

      -- entry i sets a fact that no entry from e on clears
      pub passed-set : byte i + 64 < byte e → Passed (i + 1) e lanes
      passed-set s =
          record {
            among = P.among;
            limit = P.limit;
            few = P.few;
            bits = P.bits;
            before = P.before;
            from = P.from;
            behind = elim (ℕ_discrete i e) [ yes d ↦ absurd (omega (arith, ap byte d)) | no d ↦ omega (arith, P.behind) ];
            sets =
                below_more (λ k. (l : ℕ) → e ≤ l → l < length a.effects → byte k + 64 < byte l) i P.sets λ l m d. omega (arith, order e l m d);
          }

      -- entry e clears no fact that an entry sets
      pub passed-other : (i < e → byte i + 64 < byte e → ⊥) → (i < e → byte i + 64 ≡ byte e → ⊥) → Passed i (e + 1) lanes
      passed-other less other =
          passed lanes (omega arith) (λ l. refl) λ l j m.
          rw
          (not_set a (case j) (byte e - 64) λ k d y.
          elim (dec_lt k i) [
            | yes v ↦ omega (arith, P.sets k v e (omega arith) more)
            | no v ↦ elim (dec_lt k e) [ yes u ↦ omega (arith, order i k (omega arith) d) | no u ↦ omega (arith, order e k (omega arith) d) ]
          ])
          (omega (arith, bit-small j lanes))

      -- it clears the fact that entry i sets
      module _ (few : facts ≤ max_facts) (same : byte i + 64 ≡ byte e) (x : Value)
          (x-is : (j : ℕ) → j < 64 → value_at x j ≡ denied (both (eval three (case j) (entry_at a.effects i).condition) (eval three (case j) (entry_at a.effects e).condition)))
          (lanes' : ℕ) (left : lanes' ≡ bit_and lanes x.sure) where
        pair-bits : (j : ℕ) → j < 64 → lane_bit j lanes' ≡ min (lane_bit j lanes) (flag (q j (byte i)))
        pair-bits j l =
            let s = set-and-cleared a (case j) (byte i) facts few ok i e (omega (arith, P.behind)) more (omega (arith, within)) refl (omega arith) in
            rw (left, bit-and j lanes x.sure, sure-yes x j l, x-is j l, s) refl

        pub passed-pair : Passed i (e + 1) lanes'
        passed-pair =
            let g : byte e - 64 ≡ byte i = omega arith in
            passed lanes' (omega (arith, left, and_le_l lanes x.sure)) (λ l. absurd (omega arith)) (λ l j m. rw g (pair-bits j m))

        -- no lane is left
        module _ (gone : lanes' ≡ 0) where
          pub none-left : (j : ℕ) → j < 64 → min (lane_bit j alive) (flag (every facts (q j))) ≡ 0
          none-left j l =
              let p = passed-pair in omega (arith, p.bits j l, ap (lane_bit j) gone, bit-zero j, flag-fewer p.limit facts (q j) p.few)

          pub lowest : (lanes ≡ 0 → ⊥) → alive ≡ 1 → byte i ≡ lowest_false facts (q 0)
          lowest some one =
              let g : lanes ≡ 1 = omega (arith, P.among) in
              let w : lane_bit 0 lanes ≡ 1 = low_bit lanes ∙ rw g in
              let o : every P.limit (q 0) ≡ true = flag_true _ (λ u. omega (arith, u, P.bits 0 (omega arith))) in
              sym
              (lowest-is facts (q 0) (byte i)
              (record {
                below = omega (arith, within);
                here = flag-false _ (omega (arith, pair-bits 0 (omega arith), ap (lane_bit 0) gone ∙ bit-zero 0));
                before = λ d l. elim (dec_lt d P.limit) [ yes u ↦ every-at P.limit (q 0) o d u | no u ↦ between 0 d (omega arith) (omega arith) ];
              })).1
