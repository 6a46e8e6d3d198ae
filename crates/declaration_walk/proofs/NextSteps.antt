-- A walk has a next step, whatever the words are.
use Prim.Native.Nat.{ℕ}
use mathlib.Core.Path.{◌≡◌, refl}
use mathlib.Core.List.{List}
use native.Mathlib.Decide.{ℕ_discrete, dec_lt}
use native.Mathlib.Omega.{arith}
use Rattle.encoding.specs.declared.Refusal.{Refusal}
use Rattle.encoding.specs.Reading.{Reading, got, stop, read_word, read_below}
use Rattle.declaration_walk.specs.declared.After.{After}
use Rattle.declaration_walk.specs.declared.After.TheVariants.{FieldList, CaseList, OneType, NoMore}
use Rattle.declaration_walk.specs.declared.Walk.{Walk}
use Rattle.declaration_walk.specs.declared.Next.{Next}
use Rattle.std.specs.Prelude.{Result}
use Rattle.declaration_walk.specs.Walks.{read_entry, read_two, Stepped, type-due, parameter, no-parameter, fields, no_fields, cases, no_cases, alias, field, no_field, nameless, no-nameless, case, no-case, end}

module _ (bound : ℕ) (ws : List ℕ) (w : Walk) where
  pub record Step : Type 0 where
    pub next : Result Next Refusal
    pub steps : Stepped bound ws w next

  by : {s : Result Next Refusal} → Stepped bound ws w s → Step
  by {s} k = record { next = s; steps = k }

  -- by own words, or by a refusal
  reading : {A : Type 0} (y : Reading A) → ((a : A) (q : ℕ) → y ≡ got a q → Step) → ((r : Refusal) → y ≡ stop r → Step) → Step
  reading (got a q) f g = f a q refl
  reading (stop r) f g = g r refl

  member-step : w.types ≡ 0 → w.parameters ≡ 0 → w.after ≡ NoMore → Step
  member-step e d a = elim (dec_lt 0 w.fields) [
    | yes h ↦ elim (ℕ_discrete w.kind 0) [
      | yes k ↦ reading (read_two 2 bound ws w.place) (λ v q r. by (field e d a h k r)) (λ i r. by (no_field e d a h k r))
      | no k ↦ reading (read_below 2 ws w.place) (λ v q r. by (nameless e d a h k r)) (λ i r. by (no-nameless e d a h k r))
    ]
    | no h ↦ elim (dec_lt 0 w.cases) [
      | yes k ↦ reading (read_two bound bound ws w.place) (λ v q r. by (case e d a (omega arith) k r)) (λ i r. by (no-case e d a (omega arith) k r))
      | no k ↦ by (end e d a (omega arith) (omega arith))
    ]
  ]

  body-step : w.types ≡ 0 → w.parameters ≡ 0 → (a : After) → w.after ≡ a → Step
  body-step e d (FieldList b) a = reading (read_entry 2 ws w.place) (λ v q r. by (fields e d a r)) (λ i r. by (no_fields e d a r))
  body-step e d CaseList a = reading (read_word ws w.place) (λ v q r. by (cases e d a r)) (λ i r. by (no_cases e d a r))
  body-step e d OneType a = by (alias e d a)
  body-step e d NoMore a = member-step e d a

  pub next-step : Step
  next-step = elim (dec_lt 0 w.types) [
    | yes h ↦ by (type-due h)
    | no h ↦ elim (dec_lt 0 w.parameters) [
      | yes k ↦ reading (read_entry bound ws w.place) (λ v q r. by (parameter (omega arith) k r)) (λ i r. by (no-parameter (omega arith) k r))
      | no k ↦ body-step (omega arith) (omega arith) w.after refl
    ]
  ]
