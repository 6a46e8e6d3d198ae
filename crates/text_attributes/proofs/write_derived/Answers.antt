use Prim.Native.Nat.{◌+◌, ◌<◌}
use mathlib.Core.Bool.{true}
use mathlib.Core.Path.{refl}
use native.Mathlib.Omega.{arith}
use lib.ListN.{get_or, length}
use Rattle.rast.specs.Bytes.{ascii}
use Rattle.buffer.proofs.Passes.{laid-nothing, laid-wrote}
use Rattle.encoding.specs.Reading.{got}
use Rattle.text_pass.specs.Passes.{◌then◌, last}
use Rattle.text_pass.proofs.Passes.{AlongChain, chain_fits, chain-laid, chain_next, chain-ready, last_fits, last-laid}
use Rattle.text_pass.proofs.Leaves.{count-there, there-none, there-some}
use Rattle.text_attributes.specs.Texts.{derived_at, some_arguments}
use Rattle.text_attributes.proofs.Attributes.{derived-first}
use Rattle.text_attributes.proofs.write_derived.Goals as goal

pub offset_bounds-words-at : goal.offset_bounds-words-at
offset_bounds-words-at c =
    let there : (c.args.at < length c.args.words.now) = count-there (derived-first c.args.words.now c.args.pairs.now c.args.text.now c.args.at) c.requires.1 in
    let start = c in
    omega (arith, there, start.requires.0.few)

pub bounds-words-at : goal.bounds-words-at
bounds-words-at c =
    let there : (c.args.at < length c.args.words.now) = count-there (derived-first c.args.words.now c.args.pairs.now c.args.text.now c.args.at) c.requires.1 in
    there

pub overflow_add-result : goal.overflow_add-result
overflow_add-result c =
    let there : (c.args.at < length c.args.words.now) = count-there (derived-first c.args.words.now c.args.pairs.now c.args.text.now c.args.at) c.requires.1 in
    let start = c in
    omega (arith, there, start.requires.0.few)

pub returns-then-n-eq0 : goal.returns-then-n-eq0
returns-then-n-eq0 c =
    let start = c in
    there-none (derived-first start.args.words.now start.args.pairs.now start.args.text.now start.args.at) start.requires.1 c.if-n-eq0.true (laid-nothing _ _)

pub put-p-requires : goal.put-p-requires
unfolding ascii
put-p-requires c =
    let arguments : let start = c in AlongChain true start.args.out.now start.args.pos (derived_at start.args.words.now start.args.pairs.now start.args.text.now start.args.at) start.args.out.now start.args.pos (got (ascii "(") (start.args.at + 1) then λ q. some_arguments start.args.words.now start.args.pairs.now start.args.text.now (get_or start.args.words.now start.args.at 0) q then λ r. last (got (ascii ")") r)) = let start = c in
    there-some (derived-first start.args.words.now start.args.pairs.now start.args.text.now start.args.at) start.requires.1 c.if-n-eq0.false in
    (chain_fits arguments).room refl

pub overflow_add-at : goal.overflow_add-at
overflow_add-at c =
    let there : (c.args.at < length c.args.words.now) = count-there (derived-first c.args.words.now c.args.pairs.now c.args.text.now c.args.at) c.requires.1 in
    let start = c in
    omega (arith, there, start.requires.0.few)

pub write_arguments-list-requires : goal.write_arguments-list-requires
unfolding ascii
write_arguments-list-requires c =
    let arguments : let start = c in AlongChain true start.args.out.now start.args.pos (derived_at start.args.words.now start.args.pairs.now start.args.text.now start.args.at) start.args.out.now start.args.pos (got (ascii "(") (start.args.at + 1) then λ q. some_arguments start.args.words.now start.args.pairs.now start.args.text.now (get_or start.args.words.now start.args.at 0) q then λ r. last (got (ascii ")") r)) = let start = c in
    there-some (derived-first start.args.words.now start.args.pairs.now start.args.text.now start.args.at) start.requires.1 c.if-n-eq0.false in
    let behind : let start = c in AlongChain true start.args.out.now start.args.pos (derived_at start.args.words.now start.args.pairs.now start.args.text.now start.args.at) c.put-p.new.out c.put-p.result (some_arguments start.args.words.now start.args.pairs.now start.args.text.now (get_or start.args.words.now start.args.at 0) (start.args.at + 1) then λ r. last (got (ascii ")") r)) = chain-laid arguments (laid-wrote refl c.put-p.ensures) in
    (c.requires.0, omega (arith, c.if-n-eq0.false), chain-ready behind)

pub put-requires : goal.put-requires
unfolding ascii
put-requires c =
    let arguments : let start = c in AlongChain true start.args.out.now start.args.pos (derived_at start.args.words.now start.args.pairs.now start.args.text.now start.args.at) start.args.out.now start.args.pos (got (ascii "(") (start.args.at + 1) then λ q. some_arguments start.args.words.now start.args.pairs.now start.args.text.now (get_or start.args.words.now start.args.at 0) q then λ r. last (got (ascii ")") r)) = let start = c in
    there-some (derived-first start.args.words.now start.args.pairs.now start.args.text.now start.args.at) start.requires.1 c.if-n-eq0.false in
    let behind : let start = c in AlongChain true start.args.out.now start.args.pos (derived_at start.args.words.now start.args.pairs.now start.args.text.now start.args.at) c.put-p.new.out c.put-p.result (some_arguments start.args.words.now start.args.pairs.now start.args.text.now (get_or start.args.words.now start.args.at 0) (start.args.at + 1) then λ r. last (got (ascii ")") r)) = chain-laid arguments (laid-wrote refl c.put-p.ensures) in
    (last_fits (chain_next behind c.write_arguments-list.ensures)).room refl

pub returns : goal.returns
unfolding ascii
returns c =
    let arguments : let start = c in AlongChain true start.args.out.now start.args.pos (derived_at start.args.words.now start.args.pairs.now start.args.text.now start.args.at) start.args.out.now start.args.pos (got (ascii "(") (start.args.at + 1) then λ q. some_arguments start.args.words.now start.args.pairs.now start.args.text.now (get_or start.args.words.now start.args.at 0) q then λ r. last (got (ascii ")") r)) = let start = c in
    there-some (derived-first start.args.words.now start.args.pairs.now start.args.text.now start.args.at) start.requires.1 c.if-n-eq0.false in
    let behind : let start = c in AlongChain true start.args.out.now start.args.pos (derived_at start.args.words.now start.args.pairs.now start.args.text.now start.args.at) c.put-p.new.out c.put-p.result (some_arguments start.args.words.now start.args.pairs.now start.args.text.now (get_or start.args.words.now start.args.at 0) (start.args.at + 1) then λ r. last (got (ascii ")") r)) = chain-laid arguments (laid-wrote refl c.put-p.ensures) in
    last-laid (chain_next behind c.write_arguments-list.ensures) (laid-wrote refl c.put.ensures)
