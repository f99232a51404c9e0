-- What a text says is sound: its limits are those of a version, and its problem and its plan are sound. So both are read again from the blocks that
-- are made of them. Assumes nothing.
use Rattle.std.proofs.Common.{◌≡◌, refl, ◌⊎◌, inl, inr, Bool, true, false, cond, List, [], ℕ, ◌≤◌, length, Some, None, codes, arith, leb-true}
use Rattle.std.proofs.lemmas.Bool.{eqb-false, not-true}
use Rattle.std.proofs.lemmas.List.{length-map}
use Rattle.std.specs.Str.{bytes_eq}
use Rattle.model.specs.declared.Limits.{Limits}
use Rattle.model.specs.Limits.{version1, version2, limits_of, max_actions}
use Rattle.model.specs.Read.{block}
use Rattle.model.specs.ProblemBytes.{Problem, encode_problem, encode_plan}
use Rattle.model.specs.WellFormed.{ProblemOk, PlanOk, Sensible}
use Rattle.model.proofs.Guarantees.{version1-sensible, version2-sensible}
use Rattle.model.proofs.Laws.ProblemCodec.{problem-ok, plan-ok}
use Rattle.words.specs.Words.{word}
use Rattle.make.specs.Parsed.{and_then, ◌>>=◌, ◌>>◌, done, here, peek, next}
use Rattle.make.specs.SourceText.{limits_named, version, action_names, Source, rest, source}
use Rattle.make.proofs.Said.{SaidIsRead}
use Rattle.make.proofs.SoundParts.{Gives, gives, reads, skips, tests, found-gives}
use Rattle.make.proofs.SoundFormulas.{formula_is_ok}
use Rattle.make.proofs.SoundProblems.{facts_are_few, actions_are_ok}
use Rattle.make.proofs.SoundPlans.{plan_is_ok}

-- limits of one of the versions
abbrev pub OfVersion : Limits → Type 0
OfVersion F = (F ≡ version1) ⊎ (F ≡ version2)

limits-named : (w : List ℕ) (F : Limits) → limits_named w ≡ Some F → OfVersion F
unfolding limits_named
limits-named w F e = by-test (bytes_eq w (codes "1")) (bytes_eq w (codes "2")) e
  where
    by-test : (one two : Bool) → cond one (Some version1) (cond two (Some version2) None) ≡ Some F → OfVersion F
    by-test true two h = inl (grind arith)
    by-test false true h = inr (grind arith)
    by-test false false h = absurd (grind arith)

-- the limits that a text names are those of a version
pub version_is_one : (t : List ℕ) → Gives (version t) OfVersion
unfolding version ◌>>=◌ ◌>>◌ and_then here next
version_is_one t = skips _ λ _ u. found-gives _ _ _ _ (limits-named (word u))

-- what is asked of what a text says
pub record SourceOk (r : Source) : Type 0 where
  pub version : OfVersion r.limits
  pub problem : ProblemOk r.limits r.problem
  pub plan : (steps : List ℕ) → r.plan ≡ Some steps → PlanOk (length r.problem.actions) steps

-- what follows the facts, of which there is one at least and no more than there may be
pub rest_is_ok :
    (F : Limits) (names : List (List ℕ)) (t : List ℕ) → OfVersion F → 1 ≤ length names → length names ≤ F.facts →
    Gives (rest F names t) SourceOk
unfolding rest ◌>>=◌ ◌>>◌ and_then here peek done
rest_is_ok F names t v some few =
    skips _ λ _ t₁.
    reads (formula_is_ok names t₁) λ initial t₂ a.
    skips _ λ _ t₃.
    reads (formula_is_ok names t₃) λ goal t₄ b.
    reads (actions_are_ok F names max_actions [] t₄ tt) λ as' t₅ (k, l).
    reads (plan_is_ok (action_names as') t₅) λ steps t₆ o.
    tests _ _ _ _ _ λ _.
    tests _ _ _ _ _ λ short.
    gives
    (record {
      version = v;
      problem =
          record {
            some_fact = some;
            facts = few;
            count = omega (arith, length-map as' (λ a. a.action));
            initial = a;
            goal = b;
            actions = k;
            short = leb-true _ _ short;
          };
      plan = λ bs e. rw (length-map as' (λ a. a.action), ← length-map as' (λ a. a.name)) (o bs e);
    })

-- what a text says is sound
pub source_is_ok : (t : List ℕ) → Gives (source t) SourceOk
unfolding source ◌>>=◌ ◌>>◌ and_then here
source_is_ok t =
    reads (version_is_one t) λ F t₁ v.
    reads (facts_are_few F.facts [] t₁) λ names t₂ few.
    tests _ _ _ _ _ λ some.
    rest_is_ok F names t₂ v (omega (arith, eqb-false (length names) 0 (not-true _ some))) (omega arith)

-- the version's numbers are sensible, and a block begins with its number
version-sensible : (F : Limits) → OfVersion F → Sensible F
version-sensible F (inl e) = rw e version1-sensible
version-sensible F (inr e) = rw e version2-sensible

block-limits : (F : Limits) (p : Problem) → OfVersion F → limits_of (encode_problem F p) ≡ F
unfolding encode_problem block
block-limits F p (inl e) = rw e refl
block-limits F p (inr e) = rw e refl

-- what is made is read
pub said-is-read : SaidIsRead
said-is-read t left r e =
    let k = (source_is_ok t).of r left e in (
      block-limits r.limits r.problem k.version,
      problem-ok r.limits (version-sensible r.limits k.version) (encode_problem r.limits r.problem) r.problem k.problem refl,
      λ steps i. plan-ok (encode_plan steps) (length r.problem.actions) steps (k.plan steps i) refl,
    )
