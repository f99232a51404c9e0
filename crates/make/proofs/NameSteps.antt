-- The steps of reading words that have to stand somewhere, the version, and the names of facts.
use Rattle.std.proofs.Common.{◌≡◌, ℕ, zero, suc, ◌<◌, ◌≤◌, ◌-◌, cond, ◌||◌, length, List, [], ◌∷◌, ◌++◌, codes, Bor, Bool, true, false, Option, Some, None, is_some, refl, sym, ap, ap₂, ◌∙◌, subst, arith}
use Rattle.std.proofs.lemmas.List.{length-append}
use Rattle.std.specs.Str.{bytes_eq}
use Rattle.model.specs.declared.Limits.{Limits}
use Rattle.model.specs.Limits.{version1, version2, max_facts}
use Rattle.words.specs.Words.{word, after_word, left_at}
use Rattle.names.specs.Names.{has_word, is_name}
use Rattle.make.specs.Parsed.{Parsed, bad, got, and_then, ◌>>=◌, ◌>>◌, done, here, next, require, found}
use Rattle.make.specs.FormulaText.{one_more, index_of}
use Rattle.make.specs.SourceText.{new_name, key, limits_named, version, facts}
use Rattle.words.specs.declared.complaint.Complaint.{Complaint}
use Rattle.words.specs.declared.complaint.Complaint.TheVariants.{NoVersion, NoName, NameTaken, TooManyFacts}
use Rattle.make.specs.Reads.{Gives}
use Rattle.make.specs.Views.{texts, IsText}

-- ---- a word that has to stand here

module _ (k : List ℕ) (c : Complaint) (t w : List ℕ) (first : w ≡ word t) where
  pub key-good : (u : List ℕ) → u ≡ after_word t → bytes_eq w k ≡ true → key k c t ≡ got tt u
  unfolding key ◌>>=◌ and_then here next require
  key-good u rest same =
      let e : bytes_eq (word t) k ≡ true = subst (λ x. bytes_eq x k ≡ true) first same in
      rw rest (rw e refl)

  pub key-bad : bytes_eq w k ≡ false → key k c t ≡ bad c (left_at t)
  unfolding key ◌>>=◌ and_then here next require
  key-bad other =
      let e : bytes_eq (word t) k ≡ false = subst (λ x. bytes_eq x k ≡ false) first other in
      rw e refl

-- ---- a new name

pub has_word-is : (ns : List (List ℕ)) (w : List ℕ) → has_word ns w ≡ is_some (index_of ns w)
unfolding index_of
has_word-is [] w = refl
has_word-is (n ∷ ns) w = ap (λ x. bytes_eq n w || x) (has_word-is ns w) ∙ later (bytes_eq n w) (index_of ns w)
  where
    later : (b : Bool) (o : Option ℕ) → (b || is_some o) ≡ is_some (cond b (Some 0) (one_more o))
    later true o = refl
    later false None = refl
    later false (Some i) = refl

module _ (taken : List (List ℕ)) (t w : List ℕ) (first : w ≡ word t) where
  pub name-bad : is_name w ≡ false → new_name taken t ≡ bad NoName (left_at t)
  unfolding new_name ◌>>=◌ ◌>>◌ and_then here next require
  name-bad no_name =
      let e : is_name (word t) ≡ false = subst (λ x. is_name x ≡ false) first no_name in
      rw e refl

  module _ (a_name : is_name w ≡ true) where
    is_here : is_name (word t) ≡ true
    is_here = subst (λ x. is_name x ≡ true) first a_name

    pub name-taken : is_some (index_of taken w) ≡ true → new_name taken t ≡ bad NameTaken (left_at t)
    unfolding new_name ◌>>=◌ ◌>>◌ and_then here next require
    name-taken others =
        let e : has_word taken (word t) ≡ true = subst (λ x. has_word taken x ≡ true) first (has_word-is taken w ∙ others) in
        rw is_here (rw e refl)

    pub name-good : (u : List ℕ) → u ≡ after_word t → is_some (index_of taken w) ≡ false → new_name taken t ≡ got w u
    unfolding new_name ◌>>=◌ ◌>>◌ and_then here next require done
    name-good u rest others =
        let e : has_word taken (word t) ≡ false = subst (λ x. has_word taken x ≡ false) first (has_word-is taken w ∙ others) in
        rw (rest, first) (rw is_here (rw e refl))

-- ---- the version

pub limits_named-facts : (w : List ℕ) (F : Limits) → limits_named w ≡ Some F → F.facts ≤ max_facts
unfolding limits_named
limits_named-facts w F named = either_one (bytes_eq w (codes "1")) (bytes_eq w (codes "2")) named
  where
    either_one : (a b : Bool) → cond a (Some version1) (cond b (Some version2) None) ≡ Some F → F.facts ≤ max_facts
    either_one true b e = let f : version1 ≡ F = cc in let g = ap (λ x. x.facts) f in omega arith
    either_one false true e = let f : version2 ≡ F = cc in let g = ap (λ x. x.facts) f in omega arith
    either_one false false e = absurd cc

module _ (t k : List ℕ) (is_key : k ≡ codes "version") where
  pub version-bad : (c : Complaint) (q : ℕ) → key k NoVersion t ≡ bad c q → version t ≡ bad c q
  unfolding version ◌>>=◌ ◌>>◌ and_then here next found
  version-bad c q wrong =
      let e : key (codes "version") NoVersion t ≡ bad c q = subst (λ x. key x NoVersion t ≡ bad c q) is_key wrong in
      rw e refl

  module _ (a : Unit {0}) (u w : List ℕ) (stands : key k NoVersion t ≡ got a u) (first : w ≡ word u) where
    is_there : key (codes "version") NoVersion t ≡ got a u
    is_there = subst (λ x. key x NoVersion t ≡ got a u) is_key stands

    pub version-none : limits_named w ≡ None → version t ≡ bad NoVersion (left_at u)
    unfolding version ◌>>=◌ ◌>>◌ and_then here next found
    version-none none =
        let e : limits_named (word u) ≡ None = subst (λ x. limits_named x ≡ None) first none in
        rw is_there (rw e refl)

    pub version-some : (F : Limits) (v : List ℕ) → v ≡ after_word u → limits_named w ≡ Some F → version t ≡ got F v
    unfolding version ◌>>=◌ ◌>>◌ and_then here next found
    version-some F v rest some =
        let e : limits_named (word u) ≡ Some F = subst (λ x. limits_named x ≡ Some F) first some in
        rw rest (rw is_there (rw e refl))

-- ---- the names of facts

pub texts-push : (ns : List (Bor (List ℕ))) (n : Bor (List ℕ)) → texts (ns ++ (n ∷ [])) ≡ texts ns ++ (n.now ∷ [])
texts-push [] n = refl
texts-push (m ∷ ns) n = ap (λ x. m.now ∷ x) (texts-push ns n)

module _ (names : List (List ℕ)) (t : List ℕ) where
  facts-end : (n : ℕ) → bytes_eq (word t) (codes "fact") ≡ false → facts n names t ≡ got names t
  unfolding facts
  facts-end zero other = rw other refl
  facts-end (suc n) other = rw other refl

  facts-over : bytes_eq (word t) (codes "fact") ≡ true → facts zero names t ≡ bad TooManyFacts (left_at t)
  unfolding facts
  facts-over begins = rw begins refl

  facts-wrong :
      (n : ℕ) (c : Complaint) (q : ℕ) → 0 < n → bytes_eq (word t) (codes "fact") ≡ true → new_name names (after_word t) ≡ bad c q →
      facts n names t ≡ bad c q
  unfolding facts and_then
  facts-wrong zero c q some begins wrong = absurd (omega arith)
  facts-wrong (suc n) c q some begins wrong = rw begins (rw wrong refl)

  facts-more :
      (n k : ℕ) (w u : List ℕ) → n ≡ suc k → bytes_eq (word t) (codes "fact") ≡ true → new_name names (after_word t) ≡ got w u →
      facts n names t ≡ facts k (names ++ (w ∷ [])) u
  unfolding facts and_then
  facts-more n k w u left begins read = subst (λ x. facts x names t ≡ facts k (names ++ (w ∷ [])) u) (sym left) (rw begins (rw read refl))

-- the names that have been read, and that the rest of the reading goes on from them
pub record FactsSoFar (most : ℕ) (begin now : List ℕ) (ns : List (Bor (List ℕ))) : Type 0 where
  pub few : length ns ≤ most
  pub read : facts most [] begin ≡ facts (most - length ns) (texts ns) now

module _ (most : ℕ) (begin now w : List ℕ) (ns : List (Bor (List ℕ))) (first : w ≡ word now) (so_far : FactsSoFar most begin now ns) where
  pub facts-all : bytes_eq w (codes "fact") ≡ false → facts most [] begin ≡ got (texts ns) now
  facts-all other =
      let e : bytes_eq (word now) (codes "fact") ≡ false = subst (λ x. bytes_eq x (codes "fact") ≡ false) first other in
      so_far.read ∙ facts-end (texts ns) now (most - length ns) e

  module _ (begins : bytes_eq w (codes "fact") ≡ true) where
    is_fact : bytes_eq (word now) (codes "fact") ≡ true
    is_fact = subst (λ x. bytes_eq x (codes "fact") ≡ true) first begins

    pub facts-full : length ns ≡ most → facts most [] begin ≡ bad TooManyFacts (left_at now)
    facts-full full =
        let none_left : most - length ns ≡ 0 = omega arith in
        so_far.read ∙ (ap (λ n. facts n (texts ns) now) none_left ∙ facts-over (texts ns) now is_fact)

    module _ (room : length ns ≡ most → ⊥) (ms : List (Bor (List ℕ))) (u : List ℕ) (taken : ms ≡ ns) (rest : u ≡ after_word now) where
      same_place : (r : Parsed (List ℕ)) → new_name (texts ms) u ≡ r → new_name (texts ns) (after_word now) ≡ r
      same_place r e = ap₂ (λ x y. new_name (texts x) y) (sym taken) (sym rest) ∙ e

      pub facts-bad : (c : Complaint) (q : ℕ) → new_name (texts ms) u ≡ bad c q → facts most [] begin ≡ bad c q
      facts-bad c q wrong =
          let few = so_far.few in
          let e = same_place _ wrong in
          so_far.read ∙ facts-wrong (texts ns) now (most - length ns) c q (omega arith) is_fact e

      pub facts-next : (v : Bor (List ℕ)) (x : List ℕ) → Gives (new_name (texts ms) u) v x IsText → FactsSoFar most begin x (ns ++ (v ∷ []))
      facts-next v x given =
          let few = so_far.few in
          let longer = length-append ns (v ∷ []) in
          let e = same_place _ given.read in
          let step = facts-more (texts ns) now (most - length ns) (most - length (ns ++ (v ∷ []))) given.value x (omega arith) is_fact e in
          let more : texts ns ++ (given.value ∷ []) ≡ texts (ns ++ (v ∷ [])) = ap (λ y. texts ns ++ (y ∷ [])) (sym given.is) ∙ sym (texts-push ns v) in
          record {
            few = omega arith;
            read = so_far.read ∙ (step ∙ ap (λ y. facts (most - length (ns ++ (v ∷ []))) y x) more);
          }
