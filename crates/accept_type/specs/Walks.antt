-- The accepting pass as the measuring pass of `text_measure` in a mode in which no type shows, so that no length is ever added.
use Rattle.std.specs.Prelude.{Ok, Err, Result, ℕ, ◌*◌, ◌/◌, ◌^◌, ◌≤◌, ◌<◌, ◌≡◌, List, map}
use Rattle.encoding.specs.declared.Refusal.{Refusal}
use Rattle.encoding.specs.declared.Head.{Head}
use Rattle.encoding.specs.Reading.{Reading, got, stop}
use Rattle.encoding.specs.HeadWords.{kids}
use Rattle.text_measure.specs.declared.Pass.{Pass}
use Rattle.text_measure.specs.declared.Step.{Step as PassStep}
use Rattle.text_measure.specs.declared.Step.TheVariants.{On as PassOn, Ended as PassEnded}
use Rattle.text_measure.specs.Lengths.{CutDown}
use Rattle.accept_type.specs.declared.Own.{Own}
use Rattle.accept_type.specs.declared.Own.TheVariants.{Leaf, Node}
use Rattle.accept_type.specs.declared.TypeWalk.{TypeWalk}
use Rattle.accept_type.specs.declared.Step.{Step}
use Rattle.accept_type.specs.declared.Step.TheVariants.{On, Ended}

-- the answer says what the reading of a head says; how many types follow may be cut down
pub data Scanned (x : Reading Head) : Result Own Refusal → Type 0 where
  leaf : {h : Head} {n : ℕ} → x ≡ got h n → kids h ≡ 0 → Scanned x (Ok (Leaf n))
  node : {h : Head} {n k : ℕ} → x ≡ got h n → CutDown k (kids h) → 0 < k → k ≤ 2 ^ 15 → Scanned x (Ok (Node n k))
  none : {r : Refusal} → x ≡ stop r → Scanned x (Err r)

-- a walk is a pass in which nothing shows
abbrev pub pass_of : TypeWalk → Pass
pass_of w = record {
  place = w.place;
  bytes = 0;
  depth = w.depth;
  due = w.due;
  mode = 0;
}

-- the levels as such a pass keeps them: twice what is due, and nothing that shows
abbrev pub pass_levels : List ℕ → List ℕ
pass_levels = map (λ level. 2 * (level / 2))

-- a step likewise; at the end nothing is due
abbrev pub pass_step : Result Step Refusal → Result PassStep Refusal
pass_step (Ok (On w)) = Ok (PassOn (pass_of w))
pass_step (Ok (Ended next)) = Ok (PassEnded (record { place = next; bytes = 0; depth = 0; due = 0; mode = 0 }))
pass_step (Err r) = Err r
