-- The steps of reading an action: its effects, one after the other, after what it needs.
use Rattle.std.proofs.Common.{◌≡◌, ℕ, zero, suc, ◌+◌, ◌<◌, ◌≤◌, ◌-◌, leb, length, List, [], ◌∷◌, ◌++◌, codes, Err, true, false, Some, None, refl, sym, ap, ap₂, ◌∙◌, subst, append_assoc, arith, rules, tests}
use Rattle.std.proofs.lemmas.List.{append-nil, length-append}
use Rattle.model.specs.declared.Limits.{Limits}
use Rattle.model.specs.Formula.{Literal, Formula}
use Rattle.model.specs.Action.{Effect, Action}
use Rattle.model.specs.FormulaBytes.{literal_byte, encode_formula}
use Rattle.model.specs.ProblemBytes.{effects_bytes, action_bytes}
use Rattle.words.specs.Words.{word, after_word, left_at}
use Rattle.make.specs.Parsed.{Parsed, bad, got, and_then, ◌>>=◌, ◌>>◌, done, here, next, require, found}
use Rattle.make.specs.FormulaText.{index_of, formula_after, verb, effect, effects_from, effects}
use Rattle.make.specs.SourceText.{action}
use Rattle.words.specs.declared.complaint.Complaint.{Complaint}
use Rattle.words.specs.declared.complaint.Complaint.TheVariants.{UnknownFact, EffectOrder, TooManyEffects}
use Rattle.words.specs.declared.complaint.MakeError.{MakeError}
use Rattle.words.specs.declared.complaint.MakeError.TheVariants.{Text, OutOfMemory}
use Rattle.make.specs.declared.formulas.Counted.{Counted}
use Rattle.make.specs.declared.actions.Effect.{Effect as EffectBytes}
use Rattle.make.specs.declared.actions.Verb.{Verb}
use Rattle.make.specs.declared.actions.Verb.TheVariants.{Sets, Clears}
use Rattle.make.specs.Reads.{Gives, Reads}
use Rattle.make.specs.Views.{made_by, IsEffect, AreEffects}
use Rattle.make.proofs.Parsing.{mapped, after, after-none, after-more}

abbrev effect_of : Literal → Formula → Effect
effect_of l c = record { literal = l; condition = c }

abbrev action_of : Formula → List Effect → Action
action_of p es = record { precondition = p; effects = es }

pub literal_byte-small : (v : Verb) (f : ℕ) → f < 64 → literal_byte (made_by v f) < 128
literal_byte-small Sets f small = omega arith
literal_byte-small Clears f small = omega arith

-- ---- an effect

module _ (facts : List (List ℕ)) (literal : ℕ → Literal) (least : ℕ) (t u w : List ℕ) (first : u ≡ after_word t) (second : w ≡ word u) where
  pub effect-unknown : index_of facts w ≡ None → effect facts literal least t ≡ bad UnknownFact (left_at u)
  unfolding effect ◌>>=◌ ◌>>◌ and_then here next found require done
  effect-unknown unknown =
      let e : index_of facts (word (after_word t)) ≡ None = cc in
      rw first (rw e refl)

  module _ (f : ℕ) (known : index_of facts w ≡ Some f) where
    pub effect-order : literal_byte (literal f) < least → effect facts literal least t ≡ bad EffectOrder (left_at u)
    unfolding effect ◌>>=◌ ◌>>◌ and_then here next found require done
    effect-order low =
        let e : index_of facts (word (after_word t)) ≡ Some f = cc in
        let g : leb least (literal_byte (literal f)) ≡ false = search (tests, rules) in
        rw first (rw e (rw g refl))

    pub effect-then :
        (v k : List ℕ) → v ≡ after_word u → k ≡ codes "if" → least ≤ literal_byte (literal f) →
        effect facts literal least t ≡ mapped (effect_of (literal f)) (formula_after facts k v)
    unfolding effect ◌>>=◌ ◌>>◌ and_then here next found require done
    effect-then v k rest key high =
        let e : index_of facts (word (after_word t)) ≡ Some f = cc in
        let g : leb least (literal_byte (literal f)) ≡ true = search (tests, rules) in
        rw (key, rest, first) (rw e (rw g (last (formula_after facts (codes "if") (after_word (after_word t))))))
      where
        last : (r : Parsed Formula) → and_then r (λ c. done (effect_of (literal f) c)) ≡ mapped (effect_of (literal f)) r
        last (bad c q) = refl
        last (got a x) = refl

-- ---- effects

module _ (facts : List (List ℕ)) (least : ℕ) (t : List ℕ) where
  pub effects-end : (n : ℕ) → verb facts (word t) ≡ None → effects facts n least t ≡ got [] t
  unfolding effects effects_from done
  effects-end zero other = rw other refl
  effects-end (suc n) other = rw other refl

  module _ (l : ℕ → Literal) (is : verb facts (word t) ≡ Some l) where
    pub effects-over : effects facts zero least t ≡ bad TooManyEffects (left_at t)
    unfolding effects effects_from
    effects-over = rw is refl

    pub effects-bad : (n : ℕ) (c : Complaint) (q : ℕ) → 0 < n → effect facts l least t ≡ bad c q → effects facts n least t ≡ bad c q
    unfolding effects effects_from ◌>>=◌ and_then
    effects-bad zero c q some wrong = absurd (omega arith)
    effects-bad (suc n) c q some wrong = rw is (rw wrong refl)

    pub effects-more :
        (n k m : ℕ) (e : Effect) (u : List ℕ) → n ≡ suc k → m ≡ suc (literal_byte e.literal) → effect facts l least t ≡ got e u →
        effects facts n least t ≡ after (e ∷ []) (effects facts k m u)
    unfolding effects effects_from ◌>>=◌ and_then done
    effects-more n k m e u left rises read =
        subst (λ x. effects facts x least t ≡ after (e ∷ []) (effects facts k m u)) (sym left) (rw rises (rw is (rw read (last (effects facts k (suc (literal_byte e.literal)) u)))))
      where
        last : (r : Parsed (List Effect)) → and_then r (λ es. done (e ∷ es)) ≡ after (e ∷ []) r
        last (bad c q) = refl
        last (got a v) = refl

effects_bytes-push : (es : List Effect) (e : Effect) → effects_bytes (es ++ (e ∷ [])) ≡ (effects_bytes es ++ (literal_byte e.literal ∷ [])) ++ encode_formula e.condition
unfolding effects_bytes
effects_bytes-push [] e = ap (λ x. literal_byte e.literal ∷ x) (append-nil (encode_formula e.condition))
effects_bytes-push (d ∷ es) e = rw (effects_bytes-push es e) (simp append_assoc)

length-push : (es : List Effect) (e : Effect) → length (es ++ (e ∷ [])) ≡ length es + 1
length-push es e = omega (arith, length-append es (e ∷ []))

-- the effects that have been read, and that the rest of the reading gives the rest of them
pub record EffectsSoFar (facts : List (List ℕ)) (most : ℕ) (begin now : List ℕ) (least : ℕ) (c : Counted) : Type 0 where
  pub before : List Effect
  pub are : AreEffects before c
  pub few : c.count ≤ most
  pub read : effects facts most 0 begin ≡ after before (effects facts (most - c.count) least now)

module _ (facts : List (List ℕ)) (most : ℕ) (begin now w : List ℕ) (least : ℕ) (c : Counted) (first : w ≡ word now) (so_far : EffectsSoFar facts most begin now least c) where
  pub effects-all : None ≡ verb facts w → Gives (effects facts most 0 begin) c now AreEffects
  effects-all other =
      let e : verb facts (word now) ≡ None = subst (λ x. verb facts x ≡ None) first (sym other) in
      record {
        value = so_far.before;
        read = so_far.read ∙ (ap (after so_far.before) (effects-end facts least now (most - c.count) e) ∙ ap (λ x. got x now) (append-nil so_far.before));
        is = so_far.are;
      }

  module _ (l : ℕ → Literal) (begins : Some l ≡ verb facts w) where
    is_verb : verb facts (word now) ≡ Some l
    is_verb = subst (λ x. verb facts x ≡ Some l) first (sym begins)

    pub effects-full : c.count ≡ most → effects facts most 0 begin ≡ bad TooManyEffects (left_at now)
    effects-full full =
        let none_left : most - c.count ≡ 0 = omega arith in
        so_far.read ∙ ap (after so_far.before) (ap (λ n. effects facts n least now) none_left ∙ effects-over facts least now l is_verb)

    module _ (room : c.count ≡ most → ⊥) where
      pub effects-wrong : {V W : Type 0} (Is : Effect → V → Type 0) (Js : List Effect → W → Type 0) (e : MakeError) (u v : List ℕ) → Reads (effect facts l least now) (Err e) u Is → Reads (effects facts most 0 begin) (Err e) v Js
      effects-wrong Is Js (Text k q) u v wrong =
          let few = so_far.few in
          so_far.read ∙ ap (after so_far.before) (effects-bad facts least now l is_verb (most - c.count) k q (omega arith) wrong)
      effects-wrong Is Js OutOfMemory u v wrong = tt

      pub effects-next :
          (v : EffectBytes) (d : Counted) (u : List ℕ) → Gives (effect facts l least now) v u IsEffect → d.count ≡ c.count + 1 →
          d.bytes.items ≡ (c.bytes.items ++ (v.literal ∷ [])) ++ v.condition.items → EffectsSoFar facts most begin u (v.literal + 1) d
      effects-next v d u given counted put =
          let few = so_far.few in
          let byte = given.is.literal in
          let step = effects-more facts least now l is_verb (most - c.count) (most - d.count) (v.literal + 1) given.value u (omega arith) (omega arith) given.read in
          record {
            before = so_far.before ++ (given.value ∷ []);
            are = record {
              count = counted ∙ (ap (λ n. n + 1) so_far.are.count ∙ sym (length-push so_far.before given.value));
              bytes = put ∙ (ap₂ ◌++◌ (ap₂ (λ x y. x ++ (y ∷ [])) so_far.are.bytes given.is.literal) given.is.condition ∙ sym (effects_bytes-push so_far.before given.value));
            };
            few = omega arith;
            read = so_far.read ∙ (ap (after so_far.before) step ∙ after-more so_far.before given.value _);
          }

pub effects-begin : (facts : List (List ℕ)) (most : ℕ) (t : List ℕ) → effects facts most 0 t ≡ after [] (effects facts (most - 0) 0 t)
effects-begin facts most t =
    let e : most - 0 ≡ most = omega arith in
    rw e (after-none (effects facts most 0 t))

-- ---- an action

pub action-put :
    (p : Formula) (es : List Effect) (x y : List ℕ) (n : ℕ) → x ≡ encode_formula p → n ≡ length es → y ≡ effects_bytes es →
    (x ++ (n ∷ [])) ++ y ≡ action_bytes (action_of p es)
unfolding action_bytes
action-put p es x y n first count last = rw (first, count, last) (append_assoc (encode_formula p) (length es ∷ []) (effects_bytes es))

module _ (F : Limits) (facts : List (List ℕ)) (t k : List ℕ) (key : k ≡ codes "needs") where
  pub action-bad : (c : Complaint) (q : ℕ) → formula_after facts k t ≡ bad c q → action F facts t ≡ bad c q
  unfolding action ◌>>=◌ and_then done
  action-bad c q wrong =
      let e : formula_after facts (codes "needs") t ≡ bad c q = subst (λ x. formula_after facts x t ≡ bad c q) key wrong in
      rw e refl

  pub action-then :
      (p : Formula) (u : List ℕ) → formula_after facts k t ≡ got p u →
      action F facts t ≡ mapped (action_of p) (effects facts F.effects 0 u)
  unfolding action ◌>>=◌ and_then done
  action-then p u read =
      let e : formula_after facts (codes "needs") t ≡ got p u = subst (λ x. formula_after facts x t ≡ got p u) key read in
      rw e (last (effects facts F.effects 0 u))
    where
      last : (r : Parsed (List Effect)) → and_then r (λ es. done (action_of p es)) ≡ mapped (action_of p) r
      last (bad c q) = refl
      last (got a v) = refl
