-- Actions one by one, with where they begin. Assumes nothing.
use native.Mathlib.Decide.{dec_lt}
use Rattle.std.proofs.Common.{◌≡◌, refl, ◌∙◌, ℕ, suc, ◌+◌, ◌-◌, ◌≤◌, ◌<◌, List, [], ◌∷◌, ◌++◌, append-nil, append_assoc, length, slice_index, set, length-set, get_or-set_same, get_or-set_other, drop, arith, le-leb, below_more, add-one}
use borrow.Author.Tests.{lt-leb}
use Rattle.model.specs.{declared.Limits.Limits, Limits.max_actions, Action.Action}
use Rattle.model.specs.Read.{Read, reject, got, and_then, ◌>>=◌, ◌>>◌, done, position, require}
use Rattle.model.specs.ProblemBytes.{action, actions, action_bytes}
use Rattle.model.proofs.Laws.Tabulate.{tabulate-below, tabulate-last}
use Rattle.fields.specs.ActionBytes.{action_of}
use Rattle.fields.proofs.Encoding.{ActionCut}
use Rattle.blocks.specs.Actions.{Begin, Ends, End, actions_in, last_actions}

-- a reading with actions that were read before it
abbrev prepend : List Action → Read (List Action) → Read (List Action)
prepend pre (reject n q) = reject n q
prepend pre (got as' q) = got (pre ++ as') q

prepend-more :
    (pre : List Action) (a : Action) (x : Read (List Action)) →
    prepend pre (and_then x (λ as' r. got (a ∷ as') r)) ≡ prepend (pre ++ (a ∷ [])) x
unfolding and_then
prepend-more pre a x = grind (arith, append_assoc)

-- an action ends at q
pub record EndsAt (at s : List ℕ) (j q : ℕ) : Type 0 where
  pub is : q ≡ slice_index at j + length (action_bytes (action_of (drop (slice_index at j) s)))
  pub inside : q ≤ length s

-- i of m actions from `begin` on were read: where each begins and ends, and that the rest goes on from p
pub record Sofar (F : Limits) (s : List ℕ) (facts m begin : ℕ) (at : List ℕ) (p i : ℕ) : Type 0 where
  pub room : length at ≡ suc max_actions
  pub rest : actions F s facts m begin ≡ prepend (actions_in s i at) (actions F s facts (m - i) p)
  pub each : Begin facts i at s
  pub ends : (j : ℕ) → suc j < i → Ends at s j
  pub last : (j : ℕ) → suc j ≡ i → EndsAt at s j p

-- the place i is written, and none below it changes
module _ (at s : List ℕ) (i p : ℕ) (room : i < length at) where
  kept : (j : ℕ) → j < i → slice_index (set at i p) j ≡ slice_index at j
  kept j l = get_or-set_other at i j p 0 (λ z. omega arith)

  same-actions : actions_in s i (set at i p) ≡ actions_in s i at
  same-actions =
      let begin = λ (at : List ℕ) (j : ℕ). action_of (drop (slice_index at j) s) in
      tabulate-below i (begin (set at i p)) (begin at) (λ j k. rw (kept j k))

  same-begin : (facts : ℕ) → Begin facts i at s → Begin facts i (set at i p) s
  same-begin facts each j k = rw (kept j k) (each j k)

  same-end : ((j : ℕ) → suc j < i → Ends at s j) → ((j : ℕ) → suc j ≡ i → EndsAt at s j p) → End i (set at i p) s
  same-end ends last j k =
      elim (dec_lt (suc j) i) [
        | yes l ↦ let e = ends j l in record { next = rw (kept (suc j) l, kept j k) e.next; inside = rw (kept (suc j) l) e.inside }
        | no l ↦
            let z : suc j ≡ i = omega arith in
            let e = last j z in
            record {
              next = rw (z, get_or-set_same at i p 0 room, kept j k) e.is;
              inside = rw (z, get_or-set_same at i p 0 room) e.inside;
            }
      ]

module _ {F : Limits} {s : List ℕ} {facts m begin : ℕ} where
  module _ {at : List ℕ} {p i : ℕ} (o : Sofar F s facts m begin at p i) where
    pub sofar-refused : {n q : ℕ} → i < m → action F s facts p ≡ reject n q → last_actions F s facts m begin ≡ reject n q
    unfolding actions last_actions ◌>>=◌ and_then
    sofar-refused h e = let d : m - i ≡ suc (m - i - 1) = omega arith in rw (o.rest, d, e)

    module _ (l : i < max_actions) where
      room : i < length at
      room = omega (arith, o.room)

      one-more : actions_in s (i + 1) (set at i p) ≡ actions_in s i at ++ (action_of (drop p s) ∷ [])
      one-more = rw (add-one, tabulate-last, same-actions at s i p room, get_or-set_same at i p 0 room) refl

      pub sofar-next : {q : ℕ} → i < m → ActionCut F s facts p q → Sofar F s facts m begin (set at i p) q (i + 1)
      unfolding actions ◌>>=◌ and_then done
      sofar-next {q} h g =
          let d : m - i ≡ suc (m - (i + 1)) = omega arith in
          record {
            room = length-set at i p ∙ o.room;
            rest = rw (o.rest, d, g.read, one-more) (prepend-more _ _ (actions F s facts (m - (i + 1)) q));
            each = below_more _ i (same-begin at s i p room facts o.each) (rw (get_or-set_same at i p 0 room) (g.begins, g.sound));
            ends = λ j k. same-end at s i p room o.ends o.last j (omega arith);
            last =
                λ j k.
                let z : j ≡ i = omega arith in
                record { is = rw (z, get_or-set_same at i p 0 room) g.ends; inside = g.inside };
          }

    module _ (h : i ≡ m) where
      read-all : actions F s facts m begin ≡ got (actions_in s m at) p
      unfolding actions done
      read-all = let d : m - i ≡ 0 = omega arith in rw (o.rest, d, append-nil, h)

      pub sofar-left : p < length s → last_actions F s facts m begin ≡ reject 25 p
      unfolding last_actions ◌>>=◌ ◌>>◌ and_then position require
      sofar-left l = rw (read-all, lt-leb (length s) p l)

      pub sofar-all : length s ≤ p → last_actions F s facts m begin ≡ got (actions_in s m at) p
      unfolding last_actions ◌>>=◌ ◌>>◌ and_then position require done
      sofar-all l = rw (read-all, le-leb (length s) p l)

      -- the place after the last is where it ends
      module _ (few : m ≤ max_actions) where
        closed-room : i < length at
        closed-room = omega (arith, o.room)

        pub closed-actions : actions_in s m (set at m p) ≡ actions_in s m at
        closed-actions = rw h at (same-actions at s i p closed-room)

        pub closed-begin : Begin facts m (set at m p) s
        closed-begin = rw h at (same-begin at s i p closed-room facts o.each)

        pub closed-end : End m (set at m p) s
        closed-end = rw h at (same-end at s i p closed-room o.ends o.last)
