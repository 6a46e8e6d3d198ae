use Rattle.file.proofs.Files.{described, header-short, length-right, length-wrong, pairs-over, text-over, words-over}
use Rattle.file.specs.File.{described_text, file_text}
use Rattle.encoding.specs.Filled.{filled}
use mathlib.Core.Path.{◌≡◌, ◌∙◌, ap}
use Rattle.file.proofs.file_text.Goals as goal

pub returns-then-file-lt-HEADER_BYTES : goal.returns-then-file-lt-HEADER_BYTES
returns-then-file-lt-HEADER_BYTES c = header-short c.args.file.now c.args.out.now c.if-file-lt-HEADER_BYTES.true

pub returns-then-pairs-gt-MAX_PAIRS : goal.returns-then-pairs-gt-MAX_PAIRS
returns-then-pairs-gt-MAX_PAIRS c =
    let counts : file_text c.args.file.now ≡ described_text c.number_at-pairs.result c.number_at-words.result c.number_at-size.result c.args.file.now = described _ c.if-file-lt-HEADER_BYTES.false c.number_at-pairs.ensures c.number_at-words.ensures c.number_at-size.ensures in
    pairs-over _ _ _ _ counts _ c.if-pairs-gt-MAX_PAIRS.true

pub returns-then-words-gt-MAX_WORDS : goal.returns-then-words-gt-MAX_WORDS
returns-then-words-gt-MAX_WORDS c =
    let counts : file_text c.args.file.now ≡ described_text c.number_at-pairs.result c.number_at-words.result c.number_at-size.result c.args.file.now = described _ c.if-file-lt-HEADER_BYTES.false c.number_at-pairs.ensures c.number_at-words.ensures c.number_at-size.ensures in
    words-over _ _ _ _ counts _ c.if-pairs-gt-MAX_PAIRS.false c.if-words-gt-MAX_WORDS.true

pub returns-then-size-gt-MAX_TEXT : goal.returns-then-size-gt-MAX_TEXT
returns-then-size-gt-MAX_TEXT c =
    let counts : file_text c.args.file.now ≡ described_text c.number_at-pairs.result c.number_at-words.result c.number_at-size.result c.args.file.now = described _ c.if-file-lt-HEADER_BYTES.false c.number_at-pairs.ensures c.number_at-words.ensures c.number_at-size.ensures in
    text-over _ _ _ _ counts _ c.if-pairs-gt-MAX_PAIRS.false c.if-words-gt-MAX_WORDS.false c.if-size-gt-MAX_TEXT.true

pub returns-then-file-pairs : goal.returns-then-file-pairs
returns-then-file-pairs c =
    let counts : file_text c.args.file.now ≡ described_text c.number_at-pairs.result c.number_at-words.result c.number_at-size.result c.args.file.now = described _ c.if-file-lt-HEADER_BYTES.false c.number_at-pairs.ensures c.number_at-words.ensures c.number_at-size.ensures in
    length-wrong _ _ _ _ counts c.if-pairs-gt-MAX_PAIRS.false c.if-words-gt-MAX_WORDS.false c.if-size-gt-MAX_TEXT.false _ c.if-file-pairs.true

pub returns : goal.returns
returns c =
    let counts : file_text c.args.file.now ≡ described_text c.number_at-pairs.result c.number_at-words.result c.number_at-size.result c.args.file.now = described _ c.if-file-lt-HEADER_BYTES.false c.number_at-pairs.ensures c.number_at-words.ensures c.number_at-size.ensures in
    let b = c in
    c.encoded_text.ensures ∙ ap (filled _) (length-right _ _ _ _ counts b.if-pairs-gt-MAX_PAIRS.false b.if-words-gt-MAX_WORDS.false b.if-size-gt-MAX_TEXT.false b.if-file-pairs.false)
