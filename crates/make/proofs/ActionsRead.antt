-- The text of actions is read as the actions, each by its name. Assumes nothing.
use Rattle.std.proofs.Common.{◌≡◌, refl, sym, ap, ◌∙◌, false, List, [], ◌∷◌, ◌++◌, append_assoc, append-nil, map, ℕ, zero, suc, ◌+◌, ◌≤◌, ◌<◌, arith, length}
use Rattle.std.specs.Prelude.{codes}
use Rattle.std.specs.Str.{bytes_eq}
use Rattle.model.specs.declared.Limits.{Limits}
use Rattle.model.specs.Action.{Action, tabulate}
use Rattle.model.specs.WellFormed.{Each, ActionOk}
use Rattle.model.proofs.Laws.Tabulate.{tabulate-last}
use Rattle.words.specs.Words.{word, after_word, past_blanks, word_length, run_length}
use Rattle.names.specs.Names.{Names, Named}
use Rattle.names.specs.Texts.{action_name}
use Rattle.names.specs.ProblemText.{needs_text, effects_text, actions_text}
use Rattle.make.specs.Parsed.{got, ◌>>=◌, and_then, done}
use Rattle.make.specs.SourceText.{NamedAction, action_names, action, named_action, actions}
use Rattle.make.proofs.FormulaRead.{fact_names}
use Rattle.make.proofs.NameRead.{new-name-read, in-none}
use Rattle.make.proofs.EffectsRead.{EndsAction, line-shape, needs-read, no-needs-next, effects-read}

-- the names of so many actions
abbrev pub names_of_actions : Names → ℕ → List (List ℕ)
names_of_actions N n = tabulate n (action_name N)

-- the actions from number i on, with their names
abbrev pub with_names : Names → ℕ → List Action → List NamedAction
with_names N i [] = []
with_names N i (a ∷ as') = record { name = action_name N i; action = a } ∷ with_names N (suc i) as'

-- without their names they are the actions
pub actions-of : (N : Names) (i : ℕ) (as' : List Action) → map (λ a. a.action) (with_names N i as') ≡ as'
actions-of N i [] = refl
actions-of N i (a ∷ as') = ap (λ (xs : List Action). a ∷ xs) (actions-of N (suc i) as')

-- the names of one list of actions and another
map-append :
    (as' bs : List NamedAction) → action_names (as' ++ bs) ≡ action_names as' ++ action_names bs
map-append [] bs = refl
map-append (a ∷ as') bs = ap (λ (xs : List (List ℕ)). a.name ∷ xs) (map-append as' bs)

-- one more action after those before
names-and-one :
    (N : Names) (i : ℕ) (before : List NamedAction) (a : Action) → action_names before ≡ names_of_actions N i →
    action_names (before ++ (record { name = action_name N i; action = a } ∷ [])) ≡ names_of_actions N (suc i)
names-and-one N i before a e =
    map-append before (record { name = action_name N i; action = a } ∷ []) ∙
    ap (λ (xs : List (List ℕ)). xs ++ (action_name N i ∷ [])) e ∙
    sym (tabulate-last i (action_name N))

-- and all the others after them
pub names-from :
    (N : Names) (i : ℕ) (before : List NamedAction) (as' : List Action) → action_names before ≡ names_of_actions N i →
    action_names (before ++ with_names N i as') ≡ names_of_actions N (i + length as')
names-from N i before [] e = rw (append-nil before, e) (ap (names_of_actions N) (omega arith))
names-from N i before (a ∷ as') e =
    let one : NamedAction = record { name = action_name N i; action = a } in
    let rest = names-from N (suc i) (before ++ (one ∷ [])) as' (names-and-one N i before a e) in
    ap action_names (sym (append_assoc before (one ∷ []) (with_names N (suc i) as'))) ∙ rest ∙
    ap (names_of_actions N) (omega arith)

-- a text that goes on with no action either
pub record EndsActions (names : List (List ℕ)) (t : List ℕ) : Type 0 where
  pub part : EndsAction names t
  pub no_action : bytes_eq (word (10 ∷ t)) (codes "action") ≡ false

module _ (N : Names) where
  -- where another action follows, one ends
  actions-end :
      (names : List (List ℕ)) (i : ℕ) (as' : List Action) (t : List ℕ) → EndsAction names t →
      EndsAction names (actions_text N i as' ++ t)
  unfolding actions_text word past_blanks word_length run_length
  actions-end names i [] t ends = ends
  actions-end names i (a ∷ as') t ends = record { no_condition = refl; no_needs = refl; no_verb = refl }

  module _ (F : Limits) (facts : ℕ) (named : Named facts N.facts) where
    abbrev L : List (List ℕ)
    L = fact_names N facts

    -- an action past its name
    action-read :
        (a : Action) (t : List ℕ) → ActionOk F facts a → EndsAction L t →
        action F L (10 ∷ (needs_text N a.precondition ++ (effects_text N a.effects ++ t))) ≡ got a (10 ∷ t)
    unfolding action ◌>>=◌ and_then done
    action-read a t ok ends =
        rw
        (needs-read N facts named a.precondition (effects_text N a.effects ++ t) ok.precondition (no-needs-next N a.effects t ends.no_needs), effects-read N facts named a.effects F.effects 0 t ok.count ok.effects ends)
        refl

    module _ (count : ℕ) (known : Named count N.actions) where
      -- and with its name, which none before it has
      named-read :
          (i : ℕ) (a : Action) (taken : List (List ℕ)) (t : List ℕ) → i < count → taken ≡ names_of_actions N i → ActionOk F facts a → EndsAction L t →
          named_action F L taken (32 ∷ (action_name N i ++ (10 ∷ (needs_text N a.precondition ++ (effects_text N a.effects ++ t))))) ≡
          got (record { name = action_name N i; action = a }) (10 ∷ t)
      unfolding named_action ◌>>=◌ and_then done
      named-read i a taken t lt e ok ends =
          let free = in-none i (action_name N) (action_name N i) (λ j l same. let s : j ≡ i = known.distinct j i (omega arith) lt same in omega arith) in
          let text = 10 ∷ (needs_text N a.precondition ++ (effects_text N a.effects ++ t)) in
          rw (e, new-name-read (action_name N i) text (known.sound i lt) refl (names_of_actions N i) free, action-read a t ok ends) refl

      -- actions, up to a line that is none
      pub actions-read :
          (as' : List Action) (i n : ℕ) (before : List NamedAction) (t : List ℕ) → length as' ≤ n → i + length as' ≤ count →
          action_names before ≡ names_of_actions N i → Each (ActionOk F facts) as' → EndsActions L t →
          actions F L n before (10 ∷ (actions_text N i as' ++ t)) ≡ got (before ++ with_names N i as') (10 ∷ t)
      unfolding actions actions_text and_then word after_word past_blanks word_length run_length
      actions-read [] i zero before t short most e ok ends = rw (ends.no_action, append-nil before) refl
      actions-read [] i (suc n) before t short most e ok ends = rw (ends.no_action, append-nil before) refl
      actions-read (a ∷ as') i zero before t short most e ok ends = absurd (omega arith)
      actions-read (a ∷ as') i (suc n) before t short most e (ok, others) ends =
          let one : NamedAction = record { name = action_name N i; action = a } in
          let u = actions_text N (suc i) as' ++ t in
          let e' = names-and-one N i before a e in
          let x = needs_text N a.precondition ++ (effects_text N a.effects ++ actions_text N (suc i) as') in
          rw
          (append_assoc (action_name N i) (10 ∷ x) t, line-shape (needs_text N a.precondition) (effects_text N a.effects) (actions_text N (suc i) as') t, named-read i a (action_names before) u (omega arith) e ok (actions-end L (suc i) as' t ends.part), actions-read as' (suc i) n (before ++ (one ∷ [])) t (omega arith) (omega arith) e' others ends, append_assoc before (one ∷ []) (with_names N (suc i) as'))
          refl
