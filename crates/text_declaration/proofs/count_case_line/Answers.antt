use Prim.Native.Nat.{◌+◌, ◌*◌}
use mathlib.Core.Path.{◌≡◌, ◌∙◌, ap, refl}
use lib.ListN.{length}
use native.Mathlib.Omega.{arith}
use Rattle.buffer.specs.Laid.{clamp}
use Rattle.buffer.proofs.Passes.{laid-counted}
use Rattle.text_doc.proofs.Laying.{line-size}
use Rattle.text_fields.specs.Texts.{line_text}
use Rattle.text_pass.proofs.Passes.{chain-laid, chain-start, last-went, ready-count}
use Rattle.text_declaration.proofs.Declarations.{case-line-runs}
use Rattle.text_declaration.proofs.count_case_line.Goals as goal

pub returns : goal.returns
returns c =
    let a = c.args in
    let s : a.pos + (5 + 4 * a.level) ≡ a.pos + length (line_text (a.level + 1)) = omega (arith, line-size (a.level + 1)) in last-went (chain-laid (chain-start (case-line-runs a.words.now a.pairs.now a.text.now a.level a.at) ready-count) (laid-counted refl (c.count_few-p.ensures ∙ ap clamp s))) c.count_case.ensures
