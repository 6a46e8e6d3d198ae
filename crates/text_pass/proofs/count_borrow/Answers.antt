use Rattle.encoding.specs.declared.Refusal.{Refusal}
use Rattle.std.specs.Prelude.{Result}
use Prim.Native.Nat.{ℕ, ◌+◌, ◌-◌}
use mathlib.Core.Path.{◌≡◌, ◌∙◌, ap}
use native.Mathlib.Omega.{arith}
use Rattle.buffer.specs.Laid.{clamp}
use Rattle.encoding.specs.Words.{max_depth}
use Rattle.text_pass.specs.Passes.{Counts, came}
use Rattle.text_pass.specs.Texts.{name_at, type_text_at}
use Rattle.text_pass.proofs.Leaves.{borrow-counts, ended-text, named-counts, plain-counts, text_within}
use Rattle.text_pass.proofs.Passes.{came-at, stops-here, went-as}
use Rattle.text_pass.proofs.count_borrow.Goals as goal

pub returns-then-words-at : goal.returns-then-words-at
returns-then-words-at c =
    let behind : (r : Result (ℕ × ℕ) Refusal) → let a = c.args in Counts (a.pos + 1) (text_within (max_depth - 1) a.words.now a.pairs.now a.text.now (a.at + 1)) r → Counts a.pos (type_text_at a.words.now a.pairs.now a.text.now a.at) r = λ r w. borrow-counts c.args.words.now c.args.pairs.now c.args.text.now c.args.at c.requires.1 c.requires.2 w in
    let start = c in
    let a = start.args in
    behind _ (stops-here (ended-text 62 a.words.now a.pairs.now a.text.now (a.at + 1) c.if-words-at.true))

pub returns-then-w-lt-PLAIN_KINDS : goal.returns-then-w-lt-PLAIN_KINDS
returns-then-w-lt-PLAIN_KINDS c =
    let behind : (r : Result (ℕ × ℕ) Refusal) → let a = c.args in Counts (a.pos + 1) (text_within (max_depth - 1) a.words.now a.pairs.now a.text.now (a.at + 1)) r → Counts a.pos (type_text_at a.words.now a.pairs.now a.text.now a.at) r = λ r w. borrow-counts c.args.words.now c.args.pairs.now c.args.text.now c.args.at c.requires.1 c.requires.2 w in
    let start = c in
    let a = start.args in
    let next : a.at + 1 + 1 ≡ a.at + 2 = omega arith in
    let sum : a.pos + (1 + c.primitive_length.result) ≡ a.pos + 1 + c.primitive_length.result = omega arith in
    behind _
    (came (came-at next (plain-counts 62 a.words.now a.pairs.now a.text.now (a.at + 1) (omega (arith, c.if-words-at.false)) c.if-w-lt-PLAIN_KINDS.true c.primitive_length.ensures.0 (c.count_few.ensures ∙ ap clamp sum))))

pub returns-then-w-eq-T_IDENTIFIER : goal.returns-then-w-eq-T_IDENTIFIER
returns-then-w-eq-T_IDENTIFIER c =
    let behind : (r : Result (ℕ × ℕ) Refusal) → let a = c.args in Counts (a.pos + 1) (text_within (max_depth - 1) a.words.now a.pairs.now a.text.now (a.at + 1)) r → Counts a.pos (type_text_at a.words.now a.pairs.now a.text.now a.at) r = λ r w. borrow-counts c.args.words.now c.args.pairs.now c.args.text.now c.args.at c.requires.1 c.requires.2 w in
    let start = c in
    let a = start.args in
    let next : a.at + 2 ≡ a.at + 1 + 1 = omega arith in
    behind _
    (named-counts 62 a.words.now a.pairs.now a.text.now (a.at + 1) (omega (arith, c.if-words-at.false)) c.if-w-eq-T_IDENTIFIER.true (went-as (ap (name_at a.words.now a.pairs.now a.text.now) next) c.count_name.ensures))
