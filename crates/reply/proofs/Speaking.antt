-- What is replied about a problem, by how it is read and spoken of.
use Rattle.std.proofs.Common.{◌≡◌, refl, sym, ap, ◌∙◌, subst, Bool, true, false, cond, List, ℕ, Option, None, Some, option_map, Result, Ok, Err}
use Rattle.model.specs.declared.Limits.{Limits}
use Rattle.model.specs.Limits.{limits_of}
use Rattle.model.specs.ProblemBytes.{Problem}
use Rattle.names.specs.Names.{Names}
use Rattle.names.specs.Lists.{fit}
use Rattle.names.specs.Listed.{listed}
use Rattle.names.specs.declared.lists.NameList.{NameList}
use Rattle.names.specs.Views.{names}
use Rattle.blocks.specs.declared.problem.Problem as blocks
use Rattle.blocks.proofs.Tasks.{action-count}
use Rattle.blocks.specs.Values.{problem}
use Rattle.reply.specs.declared.telling.Spoken as code
use Rattle.reply.specs.declared.telling.Unspoken.{Unspoken}
use Rattle.reply.specs.declared.telling.Unspoken.TheVariants.{Refused, OtherNames as IsOtherNames}
use Rattle.reply.specs.declared.replies.Reply.{Reply}
use Rattle.reply.specs.declared.unanswered.Unanswered.{Unanswered}
use Rattle.reply.specs.declared.unanswered.Unanswered.TheVariants.{Marks, Text, NoPlan, BadName, OtherNames, OutOfMemory}
use Rattle.reply.specs.Spoken.{Spoken, names_for}
use Rattle.reply.specs.Views.{spoken, Speaks}
use Rattle.reply.specs.Said.{Gives, Is}
use Rattle.reply.specs.Replies.{Replied, unspoken_reply}
use Rattle.reply.specs.StateMarks.{marked_state}
use Rattle.reply.specs.About.{AtState, FromState, InNames, About}

-- what is replied where memory suffices
pub gives-weaker : {P Q : Replied → Type 0} → ((x : Replied) → P x → Q x) → (r : Result Reply Unanswered) → Gives P r → Gives Q r
gives-weaker f (Ok r) g = f (Ok _) g
gives-weaker f (Err (Marks n)) g = f (Err (Marks n)) g
gives-weaker f (Err (Text c line)) g = f (Err (Text c line)) g
gives-weaker f (Err NoPlan) g = f (Err NoPlan) g
gives-weaker f (Err BadName) g = f (Err BadName) g
gives-weaker f (Err OtherNames) g = f (Err OtherNames) g
gives-weaker f (Err OutOfMemory) g = tt

module _ (json : Bool) (given : Option Names) (K : Spoken → Replied → Type 0) where
  in-names :
      (F G : Limits) (p : Problem) (o : Option Names) (N : Names) (x : Replied) → F ≡ G → o ≡ Some N → K (record { names = N; limits = F; problem = p }) x →
      InNames json given G p o K x
  in-names F G p o N x same e k = rw (e, ← same) k

  no-names : (F : Limits) (p : Problem) (o : Option Names) (x : Replied) → o ≡ None → x ≡ Err OtherNames → InNames json given F p o K x
  no-names F p o x e k = rw e k

  -- it is spoken of
  pub about-spoken : (block : List ℕ) (s : code.Spoken) (x : Replied) → Speaks given block (Ok s) → K (spoken s) x → About json given block K x
  unfolding About
  about-spoken block s x h k =
      (Ok (problem s.problem), h.0, in-names s.problem.limits (limits_of block) (problem s.problem) (names_for given (problem s.problem)) (names s.names) x h.1 h.2 k)

  about-unspoken : (block : List ℕ) (why : Unspoken) → Speaks given block (Err why) → (x : Replied) → Is (unspoken_reply json why) x → About json given block K x
  unfolding About
  about-unspoken block (Refused r) h x e = (Err r, h, e)
  about-unspoken block IsOtherNames h x e = (Ok h.0, h.1, no-names (limits_of block) h.0 (names_for given h.0) x h.2 e)

  -- it is not
  pub not-spoken :
      (block : List ℕ) (why : Unspoken) (r : Result Reply Unanswered) → Speaks given block (Err why) → Gives (Is (unspoken_reply json why)) r →
      Gives (About json given block K) r
  not-spoken block why r h g = gives-weaker (about-unspoken block why h) r g

-- ---- the names that were given

module _ (given : Option NameList) (l : NameList) (p : blocks.Problem) (b : Bool) (e : given ≡ Some l) (f : b ≡ fit (listed l) p.facts p.actions.count) where
  names-given : names_for (option_map listed given) (problem p) ≡ cond b (Some (listed l)) None
  names-given = rw (e, action-count p, f) refl

  pub do-not-fit : b ≡ false → None ≡ names_for (option_map listed given) (problem p)
  do-not-fit t = sym (rw t at names-given)

  pub do-fit : (N : Names) → b ≡ true → N ≡ listed l → Some N ≡ names_for (option_map listed given) (problem p)
  do-fit N t are = ap Some are ∙ sym (rw t at names-given)

-- ---- a state that the command line has by its marks

module _ (json : Bool) (s : code.Spoken) (marks : List ℕ) (F : Limits) (f : ℕ) (o : Option ℕ) (K : ℕ → Replied → Type 0) where
  marks-read : F ≡ s.problem.limits → f ≡ s.problem.facts → o ≡ marked_state F.width f marks → marked_state s.problem.limits.width s.problem.facts marks ≡ o
  marks-read a b e = cc

  pub from-state :
      (n : ℕ) (x : Replied) → F ≡ s.problem.limits → f ≡ s.problem.facts → o ≡ marked_state F.width f marks → o ≡ Some n → K n x →
      FromState json (spoken s) marks K x
  from-state n x a b e is k = let P : Option ℕ → Type 0 = λ v. AtState json (spoken s) v K x in subst P (sym (marks-read a b e ∙ is)) k

  pub from-no-state :
      (x : Replied) → F ≡ s.problem.limits → f ≡ s.problem.facts → o ≡ marked_state F.width f marks → o ≡ None → x ≡ Err (Marks s.problem.facts) →
      FromState json (spoken s) marks K x
  from-no-state x a b e is k = let P : Option ℕ → Type 0 = λ v. AtState json (spoken s) v K x in subst P (sym (marks-read a b e ∙ is)) k
