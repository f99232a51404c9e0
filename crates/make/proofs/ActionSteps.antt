-- The steps of reading the actions of a problem.
use Rattle.std.proofs.Common.{◌≡◌, ℕ, zero, suc, ◌<◌, ◌-◌, length, List, [], ◌∷◌, ◌++◌, map, codes, Vec, Global, Bor, true, false, refl, sym, ap, ap₂, ◌∙◌, subst, append_assoc, arith}
use Rattle.std.proofs.lemmas.List.{length-append, append-nil}
use Rattle.std.specs.Str.{bytes_eq}
use Rattle.model.specs.declared.Limits.{Limits}
use Rattle.model.specs.Action.{Action}
use Rattle.model.specs.ProblemBytes.{action_bytes, actions_bytes}
use Rattle.words.specs.Words.{word, after_word, left_at}
use Rattle.make.specs.Parsed.{Parsed, bad, got, and_then, ◌>>=◌, done}
use Rattle.make.specs.SourceText.{NamedAction, action_names, new_name, action, named_action, actions}
use Rattle.words.specs.declared.complaint.Complaint.{Complaint}
use Rattle.words.specs.declared.complaint.Complaint.TheVariants.{TooManyActions}
use Rattle.make.specs.declared.problems.Actions.{Actions}
use Rattle.make.specs.Reads.{Gives}
use Rattle.make.specs.Views.{texts, IsText, IsAction, AreActions}
use Rattle.make.proofs.NameSteps.{texts-push}

abbrev named : List ℕ → Action → NamedAction
named w a = record { name = w; action = a }

module _ (F : Limits) (names taken : List (List ℕ)) (t : List ℕ) where
  named-bad : (c : Complaint) (q : ℕ) → new_name taken t ≡ bad c q → named_action F names taken t ≡ bad c q
  unfolding named_action ◌>>=◌ and_then done
  named-bad c q wrong = rw wrong refl

  module _ (w u : List ℕ) (name : new_name taken t ≡ got w u) where
    named-wrong : (c : Complaint) (q : ℕ) → action F names u ≡ bad c q → named_action F names taken t ≡ bad c q
    unfolding named_action ◌>>=◌ and_then done
    named-wrong c q wrong = rw name (rw wrong refl)

    named-good : (a : Action) (v : List ℕ) → action F names u ≡ got a v → named_action F names taken t ≡ got (named w a) v
    unfolding named_action ◌>>=◌ and_then done
    named-good a v read = rw name (rw read refl)

module _ (F : Limits) (names : List (List ℕ)) (before : List NamedAction) (t : List ℕ) where
  actions-end : (n : ℕ) → bytes_eq (word t) (codes "action") ≡ false → actions F names n before t ≡ got before t
  unfolding actions
  actions-end zero other = rw other refl
  actions-end (suc n) other = rw other refl

  module _ (begins : bytes_eq (word t) (codes "action") ≡ true) where
    actions-over : actions F names zero before t ≡ bad TooManyActions (left_at t)
    unfolding actions
    actions-over = rw begins refl

    actions-wrong :
        (n : ℕ) (c : Complaint) (q : ℕ) → 0 < n → named_action F names (action_names before) (after_word t) ≡ bad c q →
        actions F names n before t ≡ bad c q
    unfolding actions and_then
    actions-wrong zero c q some wrong = absurd (omega arith)
    actions-wrong (suc n) c q some wrong = rw begins (rw wrong refl)

    actions-more :
        (n k : ℕ) (a : NamedAction) (u : List ℕ) → n ≡ suc k → named_action F names (action_names before) (after_word t) ≡ got a u →
        actions F names n before t ≡ actions F names k (before ++ (a ∷ [])) u
    unfolding actions and_then
    actions-more n k a u left read =
        subst (λ x. actions F names x before t ≡ actions F names k (before ++ (a ∷ [])) u) (sym left) (rw begins (rw read refl))

action_names-push : (as' : List NamedAction) (a : NamedAction) → action_names (as' ++ (a ∷ [])) ≡ action_names as' ++ (a.name ∷ [])
action_names-push [] a = refl
action_names-push (b ∷ as') a = ap (λ x. b.name ∷ x) (action_names-push as' a)

actions_bytes-push :
    (as' : List NamedAction) (a : NamedAction) →
    actions_bytes (map (λ b. b.action) (as' ++ (a ∷ []))) ≡ actions_bytes (map (λ b. b.action) as') ++ action_bytes a.action
unfolding actions_bytes
actions_bytes-push [] a = append-nil (action_bytes a.action)
actions_bytes-push (b ∷ as') a = rw (actions_bytes-push as' a) (sym (append_assoc (action_bytes b.action) (actions_bytes (map (λ b. b.action) as')) (action_bytes a.action)))

-- the actions that have been read, and that the rest of the reading goes on from them
pub record ActionsSoFar (F : Limits) (names : List (List ℕ)) (begin now : List ℕ) (v : Actions) : Type 0 where
  pub before : List NamedAction
  pub are : AreActions before v
  pub read : actions F names 64 [] begin ≡ actions F names (64 - length v.names.items) before now

pub actions-begin : (F : Limits) (names : List (List ℕ)) (t : List ℕ) (v : Actions) → v.names.items ≡ [] → v.bytes.items ≡ [] → ActionsSoFar F names t t v
unfolding actions_bytes
actions-begin F names t v no_names no_bytes =
    let none = ap length no_names in
    let all_left : 64 - length v.names.items ≡ 64 = omega arith in
    record {
      before = [];
      are = record { names = ap texts no_names; bytes = no_bytes; few = omega arith };
      read = ap (λ n. actions F names n [] t) (sym all_left);
    }

module _ (F : Limits) (names : List (List ℕ)) (begin now w : List ℕ) (v : Actions) (first : w ≡ word now) (so_far : ActionsSoFar F names begin now v) where
  pub actions-all : bytes_eq w (codes "action") ≡ false → Gives (actions F names 64 [] begin) v now AreActions
  actions-all other =
      let e : bytes_eq (word now) (codes "action") ≡ false = subst (λ x. bytes_eq x (codes "action") ≡ false) first other in
      record {
        value = so_far.before;
        read = so_far.read ∙ actions-end F names so_far.before now (64 - length v.names.items) e;
        is = so_far.are;
      }

  module _ (begins : bytes_eq w (codes "action") ≡ true) where
    is_action : bytes_eq (word now) (codes "action") ≡ true
    is_action = subst (λ x. bytes_eq x (codes "action") ≡ true) first begins

    pub actions-full : length v.names.items ≡ 64 → actions F names 64 [] begin ≡ bad TooManyActions (left_at now)
    actions-full full =
        let none_left : 64 - length v.names.items ≡ 0 = omega arith in
        so_far.read ∙ (ap (λ n. actions F names n so_far.before now) none_left ∙ actions-over F names so_far.before now is_action)

    module _ (room : length v.names.items ≡ 64 → ⊥) (ms : List (Bor (List ℕ))) (u : List ℕ) (taken : ms ≡ v.names.items) (rest : u ≡ after_word now) where
      -- the names before are those that the code has
      same_names : (r : Parsed (List ℕ)) → new_name (texts ms) u ≡ r → new_name (action_names so_far.before) (after_word now) ≡ r
      same_names r e = ap₂ new_name (sym (ap texts taken ∙ so_far.are.names)) (sym rest) ∙ e

      pub actions-bad : (c : Complaint) (q : ℕ) → new_name (texts ms) u ≡ bad c q → actions F names 64 [] begin ≡ bad c q
      actions-bad c q wrong =
          let few = so_far.are.few in
          let e = named-bad F names (action_names so_far.before) (after_word now) c q (same_names _ wrong) in
          so_far.read ∙ actions-wrong F names so_far.before now is_action (64 - length v.names.items) c q (omega arith) e

      module _ (n : Bor (List ℕ)) (x : List ℕ) (name : Gives (new_name (texts ms) u) n x IsText) where
        pub actions-inner : (c : Complaint) (q : ℕ) → action F names x ≡ bad c q → actions F names 64 [] begin ≡ bad c q
        actions-inner c q wrong =
            let few = so_far.are.few in
            let e = named-wrong F names (action_names so_far.before) (after_word now) name.value x (same_names _ name.read) c q wrong in
            so_far.read ∙ actions-wrong F names so_far.before now is_action (64 - length v.names.items) c q (omega arith) e

        pub actions-next :
            (b : Vec ℕ Global) (d : Actions) (y : List ℕ) → Gives (action F names x) b y IsAction →
            d.names.items ≡ v.names.items ++ (n ∷ []) → d.bytes.items ≡ v.bytes.items ++ b.items → ActionsSoFar F names begin y d
        actions-next b d y given names_put bytes_put =
            let few = so_far.are.few in
            let longer = length-append v.names.items (n ∷ []) in
            let size = ap length names_put in
            let e = named-good F names (action_names so_far.before) (after_word now) name.value x (same_names _ name.read) given.value y given.read in
            let a = named name.value given.value in
            let step = actions-more F names so_far.before now is_action (64 - length v.names.items) (64 - length d.names.items) a y (omega arith) e in
            record {
              before = so_far.before ++ (a ∷ []);
              are = record {
                names = ap texts names_put ∙ (texts-push v.names.items n ∙ (ap₂ (λ z m. z ++ (m ∷ [])) so_far.are.names name.is ∙ sym (action_names-push so_far.before a)));
                bytes = bytes_put ∙ (ap₂ ◌++◌ so_far.are.bytes given.is ∙ sym (actions_bytes-push so_far.before a));
                few = omega arith;
              };
              read = so_far.read ∙ step;
            }
