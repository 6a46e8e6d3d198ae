use mathlib.Core.Path.{refl}
use Rattle.buffer.proofs.Passes.{laid-counted}
use Rattle.encoding.specs.Tables.{name_count}
use Rattle.encoding.proofs.Inside.{below-there}
use Rattle.encoding.proofs.Tables.{impossible}
use Rattle.text_pass.proofs.Leaves.{doc-word, scanned-refused, scanned-went, scanned-word}
use Rattle.text_pass.proofs.Passes.{went-handed}
use Rattle.text_pass.proofs.count_doc.Goals as goal

pub lay_known_doc-requires : goal.lay_known_doc-requires
lay_known_doc-requires c =
    let s = c in
    let a = s.args in
    let e = scanned-word a.words.now (name_count a.pairs.now) a.at c.name_count.ensures c.scan_below.ensures c.in_ok-value.was in
    ((below-there _ a.words.now a.at e).below, s.requires.good, record { room = λ d. impossible (cc) })

pub returns : goal.returns
returns c =
    let a = c.args in
    scanned-went (doc-word a.words.now a.pairs.now a.text.now a.at a.level) c.name_count.ensures c.scan_below.ensures c.in_ok-value.was (laid-counted refl (c.lay_known_doc.ensures.counted refl).next)

pub returns-in_err-value : goal.returns-in_err-value
returns-in_err-value c =
    let a = c.args in
    went-handed refl c.from_residual.ensures.1 (scanned-refused (doc-word a.words.now a.pairs.now a.text.now a.at a.level) c.name_count.ensures c.scan_below.ensures c.in_err-value.was)
