-- The search: over any plans each answer exactly if it is so; and the operation that tries every short plan. Assumes nothing.
use Rattle.model.proofs.Words.{◌≡◌, refl, ap, ◌≢◌, ◌⊎◌, List, [], ◌∷◌, ◌++◌, append-nil, append_assoc, ℕ, ◌+◌, ◌-◌, ◌≤◌, ◌<◌, arith, length, lt-ltb, Limits, max_length, max_plans, refused, answered, Task, Right, visits, walked, Search, first_right, none_right, undecided_at, plan_count, search, visits_of, IsShort, Earlier, Problem, problem_of, Each, Sensible, task_of, when_few, plans_in, search_plans, NotRight, ComesTo, SearchSays, Searching}
use mathlib.Core.List.Memᴰ
use Rattle.model.specs.Answer as Answer
use Rattle.model.proofs.Laws.Verdicts.{judged-in, judged-out, right-closes, walk-closes-right, walk_ends}
use Rattle.model.proofs.Laws.Tasks.{problem-fits}
use Rattle.model.proofs.Laws.Plans.{each_append, each_of, stands, stands-before, enumerates}

module _ (task : List ℕ → Task) (fits : (p : List ℕ) → (task p).facts ≤ (task p).width) where
  visits-append : (l k : List (List ℕ)) → visits_of task (l ++ k) ≡ visits_of task l + visits_of task k
  unfolding visits_of
  visits-append [] k = omega arith
  visits-append (p ∷ l) k = omega (arith, visits-append l k)

  -- the walk tells whether a plan is right
  right-or-not : (p : List ℕ) → Right (task p) ⊎ (Right (task p) → ⊥)
  right-or-not p = grind (arith, (walk_ends (walked (task p))), walk-closes-right, (right-closes (task p)))

  -- ---- one plan

  module _ (grant : ℕ) (p : List ℕ) (ps : List (List ℕ)) (used : ℕ) where
    tries-right :
        used + visits (walked (task p)) ≤ grant → Right (task p) →
        search task grant (p ∷ ps) used ≡ first_right p (used + visits (walked (task p)))
    unfolding search
    tries-right h r = grind (arith, right-closes, judged-in)

    tries-wrong :
        used + visits (walked (task p)) ≤ grant → (Right (task p) → ⊥) →
        search task grant (p ∷ ps) used ≡ search task grant ps (used + visits (walked (task p)))
    unfolding search
    tries-wrong h w = grind (arith, walk-closes-right, judged-in)

    tries-out : used ≤ grant → grant < used + visits (walked (task p)) → search task grant (p ∷ ps) used ≡ undecided_at p grant
    unfolding search
    tries-out h l = rw (judged-out (task p) (fits p) (grant - used) (omega arith))

  module _ (plans : List (List ℕ)) (grant : ℕ) where
    -- ---- what is so is answered

    -- plans that are not right are passed by, with their visits
    passes-by :
        (before rest : List (List ℕ)) (used now : ℕ) → Each (NotRight task) before → now ≡ used + visits_of task before →
        now ≤ grant → search task grant (before ++ rest) used ≡ search task grant rest now
    unfolding visits_of
    passes-by [] rest used now x e h = ap (search task grant rest) (omega arith)
    passes-by (p ∷ before) rest used now x e h = grind (arith, tries-wrong, (passes-by before rest (used + visits (walked (task p))) now x.1 (omega arith) h))

    comes :
        (before : List (List ℕ)) (p : List ℕ) (c : ComesTo task plans grant before p) →
        search task grant plans 0 ≡ search task grant (p ∷ c.after) (visits_of task before)
    comes before p c = grind (arith, passes-by)

    is-answered : (r : Search) → SearchSays task plans grant r → search task grant plans 0 ≡ r
    unfolding search
    is-answered (first_right p used) s = grind (arith, (comes s.before p s.comes_to), (tries-right grant p))
    is-answered (none_right used) s = grind (arith, (append-nil plans), (passes-by plans [] 0 used))
    is-answered (undecided_at p used) s = grind (arith, (comes s.before p s.comes_to), (tries-out grant p))

    -- ---- what is answered is so

    -- from the plans `before` on, none of which is right
    says-after :
        (ps before : List (List ℕ)) → plans ≡ before ++ ps → Each (NotRight task) before → visits_of task before ≤ grant →
        SearchSays task plans grant (search task grant ps (visits_of task before))
    unfolding search visits_of
    says-after [] before e x h = grind (arith, append-nil)
    says-after (p ∷ ps) before e x h = grind (arith, (says-after ps), (visits-append before (p ∷ [])), (right-or-not p), tries-right, tries-wrong, append_assoc, (each_append (NotRight task) before (p ∷ []) x), tries-out)

    search-says : SearchSays task plans grant (search task grant plans 0)
    unfolding visits_of
    search-says = says-after plans [] refl tt (omega arith)

  -- ---- a larger grant

  module _ (plans : List (List ℕ)) (g g' : ℕ) (h : g ≤ g') where
    stays-so : (r : Search) → ((q : List ℕ) (used : ℕ) → r ≢ undecided_at q used) → SearchSays task plans g r → SearchSays task plans g' r
    stays-so r d s = grind arith

    larger_grant :
        ((q : List ℕ) (used : ℕ) → search task g plans 0 ≢ undecided_at q used) → search task g' plans 0 ≡ search task g plans 0
    larger_grant d = is-answered plans g' _ (stays-so (search task g plans 0) d (search-says plans g))

-- ---- the operation

-- what reading the problem refuses is refused alike
pub problem-first :
    (F : Limits) (problem : List ℕ) (longest grant n q : ℕ) → problem_of F problem ≡ refused n q →
    search_plans F problem longest grant ≡ refused n q
unfolding search_plans Answer.◌>>=◌
problem-first F problem longest grant n q e = rw e

-- the search over the plans of a problem
abbrev searched : Limits → Problem → ℕ → ℕ → Search
searched F p longest grant = search (task_of F p) grant (plans_in p longest) 0

module _ (F : Limits) (S : Sensible F) (problem : List ℕ) (p : Problem) (given : problem_of F problem ≡ answered p) where
  task-fits : (steps : List ℕ) → (task_of F p steps).facts ≤ (task_of F p steps).width
  unfolding task_of
  task-fits steps = omega (arith, problem-fits F problem p given, S.width)

  module _ (longest : ℕ) where
    counted : length (plans_in p longest) ≡ plan_count (length p.actions) longest
    counted = (enumerates (length p.actions) longest).counted

    search_is :
        (grant : ℕ) → search_plans F problem longest grant ≡ when_few (length p.actions) longest (answered (searched F p longest grant))
    unfolding search_plans Answer.◌>>=◌
    search_is grant = rw given

    over_length : (grant : ℕ) → max_length < longest → search_plans F problem longest grant ≡ refused 43 0
    over_length grant h = rw (search_is grant, lt-ltb max_length longest h)

    too_many :
        (grant : ℕ) → longest ≤ max_length → max_plans < length (plans_in p longest) → search_plans F problem longest grant ≡ refused 44 0
    too_many grant h l = grind (arith, search_is, counted)

    pub answers :
        (grant : ℕ) → longest ≤ max_length → length (plans_in p longest) ≤ max_plans →
        search_plans F problem longest grant ≡ answered (searched F p longest grant)
    answers grant h l = grind (arith, search_is, counted)

    -- whatever the grant: the search is answered, or it is refused for its length or its plans
    pub answers-or-refuses :
        ((longest ≤ max_length) × (length (plans_in p longest) ≤ max_plans) ×
        ((grant : ℕ) → search_plans F problem longest grant ≡ answered (searched F p longest grant))) ⊎
        (((max_length < longest) × ((grant : ℕ) → search_plans F problem longest grant ≡ refused 43 0)) ⊎
        ((longest ≤ max_length) × (max_plans < length (plans_in p longest)) × ((grant : ℕ) → search_plans F problem longest grant ≡ refused 44 0)))
    answers-or-refuses = grind (arith, answers, too_many, over_length)

    says :
        (grant : ℕ) (r : Search) → search_plans F problem longest grant ≡ answered r → SearchSays (task_of F p) (plans_in p longest) grant r
    says grant r e = grind (arith, answers-or-refuses, search-says, task-fits)

    -- a plan that the search comes to is short, and none before it in the order is right
    comes-first :
        (grant : ℕ) (before : List (List ℕ)) (q : List ℕ) → ComesTo (task_of F p) (plans_in p longest) grant before q →
        IsShort (length p.actions) longest q ×
        ((b : List ℕ) → IsShort (length p.actions) longest b → Earlier b q → NotRight (task_of F p) b)
    comes-first grant before q c =
        let e = c.stands in
        let all = enumerates (length p.actions) longest in (
          each_of (IsShort (length p.actions) longest) (Memᴰ.append_right before (Memᴰ.head refl)) (rw e at all.short),
          λ b h k.
              each_of (NotRight (task_of F p))
              (stands-before b q before c.after (rw e at all.sorted) (rw e at (stands (length p.actions) longest b h)) k)
              c.none_before,
        )

    stays :
        (g g' : ℕ) → g ≤ g' → ((q : List ℕ) (used : ℕ) → search_plans F problem longest g ≢ answered (undecided_at q used)) →
        search_plans F problem longest g' ≡ search_plans F problem longest g
    stays g g' h d = grind (arith, answers-or-refuses, larger_grant, task-fits)

  pub searching : Searching F problem p
  searching =
      record {
        enumerates = enumerates (length p.actions);
        over_length = over_length;
        too_many = too_many;
        says = λ longest grant h l r. grind (arith, says, answers, is-answered, task-fits);
        found_first =
            λ longest grant q used e.
            let s = says longest grant (first_right q used) e in grind (arith, (comes-first longest grant s.before q s.comes_to), s.is_right);
        undecided_first = λ longest grant q used e. let s = says longest grant (undecided_at q used) e in comes-first longest grant s.before q s.comes_to;
        none_is_right =
            λ longest grant used e b h. each_of (NotRight (task_of F p)) (stands (length p.actions) longest b h) (says longest grant (none_right used) e).none;
        larger_grant = stays;
      }
