use mathlib.Core.Path.{◌≡◌, refl}
use native.Mathlib.Omega.{arith}
use Rattle.rast.specs.Bytes.{ascii, same, ◌and◌}
use Rattle.rast.specs.ToString.{Primitive-to_string}
use Rattle.encoding.specs.Types.{primitives}
use Rattle.encoding.proofs.Heads.{past-six}
use Rattle.text_leaf.specs.Texts.{two_bytes}
use Rattle.text_leaf.proofs.Plain.{ends_test, ends_at}
use Rattle.text_leaf.proofs.plain_ends.Goals as goal

pub returns-in-0 : goal.returns-in-0
unfolding ends_test primitives Primitive-to_string ascii two_bytes same ◌and◌
returns-in-0 c = ends_at c.in-0.is refl c.with_ends.ensures

pub returns-in-1 : goal.returns-in-1
unfolding ends_test primitives Primitive-to_string ascii two_bytes same ◌and◌
returns-in-1 c = ends_at c.in-1.is refl c.with_ends-in-1.ensures

pub returns-in-2 : goal.returns-in-2
unfolding ends_test primitives Primitive-to_string ascii two_bytes same ◌and◌
returns-in-2 c = ends_at c.in-2.is refl c.with_ends-in-2.ensures

pub returns-in-3 : goal.returns-in-3
unfolding ends_test primitives Primitive-to_string ascii two_bytes same ◌and◌
returns-in-3 c = ends_at c.in-3.is refl c.with_ends-in-3.ensures

pub returns-in-4 : goal.returns-in-4
unfolding ends_test primitives Primitive-to_string ascii two_bytes same ◌and◌
returns-in-4 c = ends_at c.in-4.is refl c.with_ends-in-4.ensures

pub returns-in-5 : goal.returns-in-5
unfolding ends_test primitives Primitive-to_string ascii two_bytes same ◌and◌
returns-in-5 c = ends_at c.in-5.is refl c.with_ends-in-5.ensures

pub returns-in-6 : goal.returns-in-6
unfolding ends_test primitives Primitive-to_string ascii two_bytes same ◌and◌
returns-in-6 c = ends_at c.in-6.is refl c.with_ends-in-6.ensures

pub returns-in-7 : goal.returns-in-7
unfolding ends_test primitives Primitive-to_string ascii two_bytes same ◌and◌
returns-in-7 c = ends_at c.in-7.is refl c.with_ends-in-7.ensures

pub returns-in-8 : goal.returns-in-8
unfolding ends_test primitives Primitive-to_string ascii two_bytes same ◌and◌
returns-in-8 c = ends_at c.in-8.is refl c.with_ends-in-8.ensures

pub returns-in-9 : goal.returns-in-9
unfolding ends_test primitives Primitive-to_string ascii two_bytes same ◌and◌
returns-in-9 c = ends_at c.in-9.is refl c.with_ends-in-9.ensures

pub returns-in_default : goal.returns-in_default
unfolding ends_test primitives Primitive-to_string ascii two_bytes same ◌and◌
returns-in_default c =
    let kind = c.args.kind in
    let rest = c.in_default.in_default-own.rest in
    let six = past-six kind 0 (omega arith) rest.0.0.0.0.0.0.0.0.0.1 rest.0.0.0.0.0.0.0.0.1 rest.0.0.0.0.0.0.0.1 rest.0.0.0.0.0.0.1 rest.0.0.0.0.0.1 rest.0.0.0.0.1 in
    let e : kind ≡ 11 = omega (arith, six, c.requires.0, rest.0.0.0.1, rest.0.0.1, rest.0.1, rest.1, c.requires.1) in
    ends_at e refl c.with_ends-in_default.ensures
