use mathlib.Core.Bool.{true}
use mathlib.Core.List.{◌++◌}
use mathlib.Core.Path.{refl}
use native.Mathlib.Omega.{arith}
use Rattle.rast.specs.Bytes.{ascii}
use Rattle.rast.specs.Indent.{indent}
use Rattle.buffer.proofs.Passes.{fits-behind, fits-front, laid_then, laid-wrote}
use Rattle.encoding.specs.Reading.{got}
use Rattle.text_pass.specs.Passes.{◌then◌, last}
use Rattle.text_pass.specs.Texts.{name_at}
use Rattle.text_pass.proofs.Passes.{AlongChain, chain_fits, chain-laid, chain_next, chain-ready, chain-start, last_fits, last-laid}
use Rattle.text_pass.proofs.Leaves.{name-word, word_below}
use Rattle.text_attributes.specs.Texts.{attribute_at, derived_at}
use Rattle.text_attributes.proofs.Attributes.{attribute-runs}
use Rattle.text_attributes.proofs.write_attribute.Goals as goal

pub put-p-requires : goal.put-p-requires
unfolding ascii
put-p-requires c =
    let start = c in
    (chain_fits (chain-start (attribute-runs start.args.words.now start.args.pairs.now start.args.text.now start.args.level start.args.at) start.requires.1)).room refl

pub write_name-q-requires : goal.write_name-q-requires
unfolding ascii
write_name-q-requires c =
    let name : let start = c in AlongChain true start.args.out.now start.args.pos (attribute_at start.args.words.now start.args.pairs.now start.args.text.now start.args.level start.args.at) c.put-p.new.out c.put-p.result (name_at start.args.words.now start.args.pairs.now start.args.text.now start.args.at then λ p. derived_at start.args.words.now start.args.pairs.now start.args.text.now p then λ q. last (got (ascii "]" ++ (ascii "\n" ++ indent start.args.level)) q)) = let start = c in
    chain-laid (chain-start (attribute-runs start.args.words.now start.args.pairs.now start.args.text.now start.args.level start.args.at) start.requires.1) (laid-wrote refl c.put-p.ensures) in
    (c.requires.0, chain-ready name)

pub overflow_add-at : goal.overflow_add-at
unfolding ascii
overflow_add-at c =
    let name : let start = c in AlongChain true start.args.out.now start.args.pos (attribute_at start.args.words.now start.args.pairs.now start.args.text.now start.args.level start.args.at) c.put-p.new.out c.put-p.result (name_at start.args.words.now start.args.pairs.now start.args.text.now start.args.at then λ p. derived_at start.args.words.now start.args.pairs.now start.args.text.now p then λ q. last (got (ascii "]" ++ (ascii "\n" ++ indent start.args.level)) q)) = let start = c in
    chain-laid (chain-start (attribute-runs start.args.words.now start.args.pairs.now start.args.text.now start.args.level start.args.at) start.requires.1) (laid-wrote refl c.put-p.ensures) in
    let start = c in
    let t = word_below (name-word start.args.words.now start.args.pairs.now start.args.text.now start.args.at) (chain-ready name) in omega (arith, t.here, start.requires.0.few)

pub write_derived-list-requires : goal.write_derived-list-requires
unfolding ascii
write_derived-list-requires c =
    let name : let start = c in AlongChain true start.args.out.now start.args.pos (attribute_at start.args.words.now start.args.pairs.now start.args.text.now start.args.level start.args.at) c.put-p.new.out c.put-p.result (name_at start.args.words.now start.args.pairs.now start.args.text.now start.args.at then λ p. derived_at start.args.words.now start.args.pairs.now start.args.text.now p then λ q. last (got (ascii "]" ++ (ascii "\n" ++ indent start.args.level)) q)) = let start = c in
    chain-laid (chain-start (attribute-runs start.args.words.now start.args.pairs.now start.args.text.now start.args.level start.args.at) start.requires.1) (laid-wrote refl c.put-p.ensures) in
    (c.requires.0, chain-ready (chain_next name c.write_name-q.ensures))

pub put-end-requires : goal.put-end-requires
unfolding ascii
put-end-requires c =
    let name : let start = c in AlongChain true start.args.out.now start.args.pos (attribute_at start.args.words.now start.args.pairs.now start.args.text.now start.args.level start.args.at) c.put-p.new.out c.put-p.result (name_at start.args.words.now start.args.pairs.now start.args.text.now start.args.at then λ p. derived_at start.args.words.now start.args.pairs.now start.args.text.now p then λ q. last (got (ascii "]" ++ (ascii "\n" ++ indent start.args.level)) q)) = let start = c in
    chain-laid (chain-start (attribute-runs start.args.words.now start.args.pairs.now start.args.text.now start.args.level start.args.at) start.requires.1) (laid-wrote refl c.put-p.ensures) in
    let end : let start = c in AlongChain true start.args.out.now start.args.pos (attribute_at start.args.words.now start.args.pairs.now start.args.text.now start.args.level start.args.at) c.write_derived-list.new.out c.write_derived-list.result.pos (last (got (ascii "]" ++ (ascii "\n" ++ indent start.args.level)) c.write_derived-list.result.next)) = chain_next (chain_next name c.write_name-q.ensures) c.write_derived-list.ensures in
    (fits-front {b = ascii "]"} (ascii "\n" ++ indent c.args.level) (last_fits end)).room refl

pub put_line-requires : goal.put_line-requires
unfolding ascii
put_line-requires c =
    let name : let start = c in AlongChain true start.args.out.now start.args.pos (attribute_at start.args.words.now start.args.pairs.now start.args.text.now start.args.level start.args.at) c.put-p.new.out c.put-p.result (name_at start.args.words.now start.args.pairs.now start.args.text.now start.args.at then λ p. derived_at start.args.words.now start.args.pairs.now start.args.text.now p then λ q. last (got (ascii "]" ++ (ascii "\n" ++ indent start.args.level)) q)) = let start = c in
    chain-laid (chain-start (attribute-runs start.args.words.now start.args.pairs.now start.args.text.now start.args.level start.args.at) start.requires.1) (laid-wrote refl c.put-p.ensures) in
    let end : let start = c in AlongChain true start.args.out.now start.args.pos (attribute_at start.args.words.now start.args.pairs.now start.args.text.now start.args.level start.args.at) c.write_derived-list.new.out c.write_derived-list.result.pos (last (got (ascii "]" ++ (ascii "\n" ++ indent start.args.level)) c.write_derived-list.result.next)) = chain_next (chain_next name c.write_name-q.ensures) c.write_derived-list.ensures in
    (fits-behind _ (last_fits end) (laid-wrote refl c.put-end.ensures)).room refl

pub returns : goal.returns
unfolding ascii
returns c =
    let name : let start = c in AlongChain true start.args.out.now start.args.pos (attribute_at start.args.words.now start.args.pairs.now start.args.text.now start.args.level start.args.at) c.put-p.new.out c.put-p.result (name_at start.args.words.now start.args.pairs.now start.args.text.now start.args.at then λ p. derived_at start.args.words.now start.args.pairs.now start.args.text.now p then λ q. last (got (ascii "]" ++ (ascii "\n" ++ indent start.args.level)) q)) = let start = c in
    chain-laid (chain-start (attribute-runs start.args.words.now start.args.pairs.now start.args.text.now start.args.level start.args.at) start.requires.1) (laid-wrote refl c.put-p.ensures) in
    let end : let start = c in AlongChain true start.args.out.now start.args.pos (attribute_at start.args.words.now start.args.pairs.now start.args.text.now start.args.level start.args.at) c.write_derived-list.new.out c.write_derived-list.result.pos (last (got (ascii "]" ++ (ascii "\n" ++ indent start.args.level)) c.write_derived-list.result.next)) = chain_next (chain_next name c.write_name-q.ensures) c.write_derived-list.ensures in
    last-laid end (laid_then (laid-wrote refl c.put-end.ensures) (laid-wrote refl c.put_line.ensures))
