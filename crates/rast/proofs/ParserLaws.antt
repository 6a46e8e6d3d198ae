-- The parser gives back the type whose text it is fed, with every wrapper gone.
use Rattle.std.specs.Prelude.{Option, Some, None}
use Rattle.std.proofs.Common.{◌≡◌, ℕ, Bool, true, false, cond, not, T, List, [], ◌∷◌, ◌++◌, map, refl, ap, ◌∙◌, append_assoc, append-nil}
use Prim.Native.Char.{code}
use Rattle.rast.specs.Bytes.{Bytes, ascii, ◌and◌, ◌or◌, same, each, among}
use Rattle.rast.specs.ToString.{Path-to_string, Primitive-to_string, size_text, Type-to_string, arguments_text, comma_text, after_text}
use Rattle.rast.specs.Sound.{bare, bares, within, is_word_start, is_word_byte, excluded, is_word, sound_name, sound_size, sound_names, is_global, sound_path, is_intersection, is_named, is_empty, sound, sounds}
use Rattle.rast.specs.Tree.{Path, Global, Crate, Self, PMemberSelect, PrimitiveTy, U8, U16, U32, U64, U128, I8, I16, I32, I64, I128, USIZE, Bool·, Ty, Tys, Primitive, TIdentifier, TypeFromPath, TypeApp, Borrowed, BorrowedMut, ImplType, DynType, TupleType, FnType, IntersectionType, Array, TSynonym, TMetaData, nil, cons}
use Rattle.rast.proofs.BytesLaws.{and_both}
use Rattle.rast.proofs.Parser.{Prefix, amp, mut, impl, dyn, ret, wrap, Word, primitive, root, prefix, name, keywords, find, meaning, leaf, ended, further, Open, tuple, fn, args, Frame, plus, list, array, State, word, have, sizing, want, begin, closed, after, spaced, step, run, result, parse}

is_true : (b : Bool) → T b → b ≡ true
is_true true h = refl
is_true false h = absurd h

-- ---- words

-- a state that takes one word byte takes many
takes_all : (q : Bytes → State) → ((acc : Bytes) (b : ℕ) → is_word_byte b ≡ true → step (q acc) b ≡ q (acc ++ (b ∷ [])))
    → (x acc r : Bytes) → T (each is_word_byte x) → run (x ++ r) (q acc) ≡ run r (q (acc ++ x))
unfolding run each
takes_all q one [] acc r h = rw append-nil
takes_all q one (b ∷ x) acc r h =
    let k = and_both _ _ h in
    cc (one acc b (is_true _ k.0), takes_all q one x (acc ++ (b ∷ [])) r k.1, append_assoc acc (b ∷ []) x)

word-takes : (e : Option (Path Bytes)) (ps : List Prefix) (s : List Frame) (acc : Bytes) (b : ℕ) → is_word_byte b ≡ true
    → step (word acc e ps s) b ≡ word (acc ++ (b ∷ [])) e ps s
unfolding step
word-takes e ps s [] b h = rw h
word-takes e ps s (y ∷ ys) b h = rw h

word-takes-all : (x : Bytes) (e : Option (Path Bytes)) (ps : List Prefix) (s : List Frame) (r : Bytes) → T (each is_word_byte x)
    → run (x ++ r) (word [] e ps s) ≡ run r (word x e ps s)
word-takes-all x e ps s r = takes_all (λ acc. word acc e ps s) (word-takes e ps s) x [] r

size-takes : (t : Ty Bytes) (ps : List Prefix) (s : List Frame) (acc : Bytes) (b : ℕ) → is_word_byte b ≡ true
    → step (sizing acc t ps s) b ≡ sizing (acc ++ (b ∷ [])) t ps s
unfolding step
size-takes t ps s acc b h = rw h

size-takes-all : (x : Bytes) (t : Ty Bytes) (ps : List Prefix) (s : List Frame) (r : Bytes) → T (each is_word_byte x)
    → run (x ++ r) (sizing [] t ps s) ≡ run r (sizing x t ps s)
size-takes-all x t ps s r = takes_all (λ acc. sizing acc t ps s) (size-takes t ps s) x [] r

-- a word that is none of the keywords is a name
unlisted-is-name : (x : Bytes) (ws : List (Bytes × Word)) → T (not (among x (map (λ w. w.0) ws))) → find x ws ≡ name
unfolding among find
unlisted-is-name x [] h = refl
unlisted-is-name x (w ∷ ws) h = go (same x w.0) (unlisted-is-name x ws) h
  where
    go : (b : Bool) → (T (not (among x (map (λ w. w.0) ws))) → find x ws ≡ name)
        → T (not (b or among x (map (λ w. w.0) ws))) → cond b w.1 (find x ws) ≡ name
    go true f h = absurd h
    go false f h = f h

keywords-excluded : map (λ w. w.0) keywords ≡ excluded
unfolding keywords excluded
keywords-excluded = refl

sound-name-is-name : (x : Bytes) → T (sound_name x) → T (is_word x) × (find x keywords ≡ name)
unfolding sound_name
sound-name-is-name x h =
    let k = and_both _ _ h in
    (k.0, unlisted-is-name x keywords (rw keywords-excluded k.1))

non_empty : Bytes → Bool
non_empty [] = false
non_empty (b ∷ x) = true

word-non_empty : (x : Bytes) → T (is_word x) → T (non_empty x)
unfolding is_word non_empty
word-non_empty [] h = absurd h
word-non_empty (b ∷ x) h = tt

word_bytes : (x : Bytes) → T (is_word x) → T (each is_word_byte x)
unfolding is_word each is_word_byte
word_bytes [] h = absurd h
word_bytes (b ∷ x) h = wider (is_word_start b) (within 48 57 b) (each is_word_byte x) h
  where
    wider : (a b c : Bool) → T (a and c) → T ((a or b) and c)
    wider true b c h = h
    wider false b c h = absurd h

size-bytes : (x : Bytes) → T (sound_size (Some x)) → T (each is_word_byte x)
unfolding sound_size each
size-bytes [] h = absurd h
size-bytes (b ∷ x) h = h

-- ---- what follows a type

data Mark : Type 0 where
  comma paren angle bracket semi space : Mark

byte : Mark → ℕ
byte comma = code ","
byte paren = code ")"
byte angle = code ">"
byte bracket = code "]"
byte semi = code ";"
byte space = code " "

-- a word that is no prefix ends at a mark
plain : Word → Bool
plain (primitive p) = true
plain (root p) = true
plain (prefix p) = false
plain name = true

spaced-plain : (w : Word) (t : Ty Bytes) (ps : List Prefix) (s : List Frame) → T (plain w) → spaced w t ps s ≡ have (wrap ps t) [] s
unfolding plain spaced
spaced-plain (primitive p) t ps s h = refl
spaced-plain (root p) t ps s h = refl
spaced-plain (prefix p) t ps s h = absurd h
spaced-plain name t ps s h = refl

word-ends-at-mark : (x : Bytes) (e : Option (Path Bytes)) (c : Mark) (ps : List Prefix) (s : List Frame) → T (non_empty x) → T (plain (meaning e x))
    → step (word x e ps s) (byte c) ≡ after (byte c) (wrap ps (ended e x)) s
unfolding non_empty byte step
word-ends-at-mark [] e c ps s n h = absurd n
word-ends-at-mark (b ∷ x) e comma ps s n h = refl
word-ends-at-mark (b ∷ x) e paren ps s n h = refl
word-ends-at-mark (b ∷ x) e angle ps s n h = refl
word-ends-at-mark (b ∷ x) e bracket ps s n h = refl
word-ends-at-mark (b ∷ x) e semi ps s n h = refl
word-ends-at-mark (b ∷ x) e space ps s n h = spaced-plain (meaning e (b ∷ x)) (ended e (b ∷ x)) ps s h

-- arguments begin behind a word
arguments-begin : (x : Bytes) (e : Option (Path Bytes)) (ps : List Prefix) (s : List Frame) → T (non_empty x)
    → step (word x e ps s) (code "<") ≡ begin (args (ended e x)) ps s
unfolding non_empty step
arguments-begin [] e ps s n = absurd n
arguments-begin (b ∷ x) e ps s n = refl

-- a path goes on behind a word
colons-behind-word : (x : Bytes) (e : Option (Path Bytes)) (ps : List Prefix) (s : List Frame) (r : Bytes) → T (non_empty x)
    → run (ascii "::" ++ r) (word x e ps s) ≡ run r (word [] (Some (further e x)) ps s)
unfolding non_empty run step
colons-behind-word [] e ps s r n = absurd n
colons-behind-word (b ∷ x) e ps s r n = refl

-- a complete type ends at a mark
type-ends-at-mark : (c : Mark) (t : Ty Bytes) (ps : List Prefix) (s : List Frame) → step (have t ps s) (byte c) ≡ after (byte c) (wrap ps t) s
unfolding byte step
type-ends-at-mark comma t ps s = refl
type-ends-at-mark paren t ps s = refl
type-ends-at-mark angle t ps s = refl
type-ends-at-mark bracket t ps s = refl
type-ends-at-mark semi t ps s = refl
type-ends-at-mark space t ps s = refl

-- ---- names and paths

-- the text leads into a last word, which ends the type t
record Leads (text : Bytes) (t : Ty Bytes) : Type 0 where
  last : Bytes
  before : Option (Path Bytes)
  full : T (non_empty last)
  plainly : T (plain (meaning before last))
  ends : ended before last ≡ t
  reach : (ps : List Prefix) (s : List Frame) (r : Bytes) → run (text ++ r) (want ps s) ≡ run r (word last before ps s)

word-leads : (x : Bytes) (w : Word) → T (is_word x) → find x keywords ≡ w → T (plain w) → Leads x (leaf w x)
unfolding meaning ended
word-leads x w h e n = record {
  last = x;
  before = None;
  full = word-non_empty x h;
  plainly = rw e n;
  ends = rw e;
  reach = λ ps s r. word-takes-all x None ps s r (word_bytes x h);
}

name-leads : (x : Bytes) → T (sound_name x) → Leads x (TIdentifier x)
unfolding leaf plain
name-leads x h = let k = sound-name-is-name x h in word-leads x name k.0 k.1 tt

primitive-word : (p : PrimitiveTy) → T (is_word (Primitive-to_string p)) × (find (Primitive-to_string p) keywords ≡ primitive p)
unfolding is_word each is_word_byte Primitive-to_string find keywords
primitive-word U8 = (tt, refl)
primitive-word U16 = (tt, refl)
primitive-word U32 = (tt, refl)
primitive-word U64 = (tt, refl)
primitive-word U128 = (tt, refl)
primitive-word I8 = (tt, refl)
primitive-word I16 = (tt, refl)
primitive-word I32 = (tt, refl)
primitive-word I64 = (tt, refl)
primitive-word I128 = (tt, refl)
primitive-word USIZE = (tt, refl)
primitive-word Bool· = (tt, refl)

primitive-leads : (p : PrimitiveTy) → Leads (Primitive-to_string p) (Primitive p)
unfolding leaf plain
primitive-leads p = let k = primitive-word p in word-leads (Primitive-to_string p) (primitive p) k.0 k.1 tt

-- a path's text and the next `::` lead to the next name
colons-behind-path : (p : Path Bytes) → T (sound_names p) → (ps : List Prefix) (s : List Frame) (r : Bytes)
    → run (Path-to_string p ++ (ascii "::" ++ r)) (want ps s) ≡ run r (word [] (Some p) ps s)
unfolding sound_names Path-to_string run step
colons-behind-path Global h ps s r = refl
colons-behind-path Crate h ps s r = refl
colons-behind-path Self h ps s r = refl
colons-behind-path (PMemberSelect p x) h ps s r =
    let k = and_both (sound_names p) (sound_name x) h in
    let m = sound-name-is-name x k.1 in
    simp append_assoc (colons-behind-path p k.0 ps s _ ∙ word-takes-all x (Some p) ps s _ (word_bytes x m.0) ∙ colons-behind-word x (Some p) ps s r (word-non_empty x m.0))

path-leads : (p : Path Bytes) → T (sound_path p) → Leads (Path-to_string p) (TypeFromPath p)
unfolding sound_path is_global sound_names Path-to_string is_word each is_word_byte ended plain meaning
path-leads Global h = absurd h
path-leads Crate h = word-leads (ascii "crate") (root Crate) tt refl tt
path-leads Self h = word-leads (ascii "Self") (root Self) tt refl tt
path-leads (PMemberSelect p x) h =
    let k = and_both (sound_names p) (sound_name x) h in
    let m = sound-name-is-name x k.1 in
    record {
      last = x;
      before = Some p;
      full = word-non_empty x m.0;
      plainly = tt;
      ends = refl;
      reach = λ ps s r. simp append_assoc (colons-behind-path p k.0 ps s _ ∙ word-takes-all x (Some p) ps s r (word_bytes x m.0));
    }

base-leads : (b : Ty Bytes) → T (is_named b) → T (sound b) → Leads (Type-to_string b) (bare b)
unfolding is_named sound Type-to_string bare
base-leads (Primitive p) n h = absurd n
base-leads (TIdentifier x) n h = name-leads x h
base-leads (TypeFromPath p) n h = path-leads p h
base-leads (TypeApp b ts) n h = absurd n
base-leads (Borrowed t) n h = absurd n
base-leads (BorrowedMut t) n h = absurd n
base-leads (ImplType t) n h = absurd n
base-leads (DynType t) n h = absurd n
base-leads (TupleType ts) n h = absurd n
base-leads (FnType ts t) n h = absurd n
base-leads (IntersectionType l r) n h = absurd n
base-leads (Array t s) n h = absurd n
base-leads (TSynonym d b) n h = base-leads d n h
base-leads (TMetaData d c o) n h = base-leads d n h

-- ---- types

closes : Mark → Bool
closes comma = true
closes paren = true
closes angle = true
closes bracket = true
closes semi = true
closes space = false

no_prefix : List Prefix → Bool
no_prefix [] = true
no_prefix (p ∷ ps) = false

-- what may stand around a type: around an intersection (i) no prefix, and no space behind it
fits : Bool → List Prefix → Mark → Bool
unfolding ◌and◌ no_prefix closes
fits i ps c = no_prefix ps and closes c or not i

-- the text x, and a mark behind it, are read as the type t; i says whether t is an intersection
abbrev ReadsAs : Bytes → Ty Bytes → Bool → Type 0
ReadsAs x t i = (c : Mark) (ps : List Prefix) (s : List Frame) (r : Bytes) → T (fits i ps c)
    → run (x ++ (byte c ∷ r)) (want ps s) ≡ run r (after (byte c) (wrap ps t) s)

-- the same as a record, so that a lemma's x, t and i need not be written
record Reads (x : Bytes) (t : Ty Bytes) (i : Bool) : Type 0 where
  go : ReadsAs x t i

lead-reads : {x : Bytes} {t : Ty Bytes} → Leads x t → Reads x t false
unfolding run
lead-reads l = record { go = λ c ps s r f. l.reach ps s (byte c ∷ r) ∙ ap (run r) (word-ends-at-mark l.last l.before c ps s l.full l.plainly ∙ rw l.ends) }

amp-reads : {x : Bytes} {t : Ty Bytes} {i : Bool} → T (not i) → Reads x t i → Reads (ascii "&" ++ x) (Borrowed t) false
unfolding run step fits
amp-reads n f = record { go = λ c ps s r h. f.go c (amp ∷ ps) s r n }

mut-reads : {x : Bytes} {t : Ty Bytes} {i : Bool} → T (not i) → Reads x t i → Reads (ascii "&mut " ++ x) (BorrowedMut t) false
unfolding run step fits
mut-reads n f = record { go = λ c ps s r h. f.go c (mut ∷ (amp ∷ ps)) s r n }

impl-reads : {x : Bytes} {t : Ty Bytes} {i : Bool} → T (not i) → Reads x t i → Reads (ascii "impl " ++ x) (ImplType t) false
unfolding run step fits
impl-reads n f = record { go = λ c ps s r h. f.go c (impl ∷ ps) s r n }

dyn-reads : {x : Bytes} {t : Ty Bytes} {i : Bool} → T (not i) → Reads x t i → Reads (ascii "dyn " ++ x) (DynType t) false
unfolding run step fits
dyn-reads n f = record { go = λ c ps s r h. f.go c (dyn ∷ ps) s r n }

array-reads : {x : Bytes} {t : Ty Bytes} {i : Bool} (z : Option Bytes) → T (sound_size z) → Reads x t i → Reads (ascii "[" ++ x ++ size_text z ++ ascii "]") (Array t z) false
unfolding size_text run step fits byte
array-reads {x} {t} None h f = record {
  go = λ c ps s r g.
      let e : x ++ ascii "" ++ ascii "]" ++ (byte c ∷ r) ≡ x ++ (code "]" ∷ (byte c ∷ r)) = simp (append-nil, append_assoc) in
      ap (λ l. run l (want [] (array ps ∷ s))) e ∙ f.go bracket [] (array ps ∷ s) (byte c ∷ r) tt ∙ ap (run r) (type-ends-at-mark c (Array t None) ps s);
}
array-reads {x} {t} (Some z) h f = record {
  go = λ c ps s r g.
      let e : x ++ (ascii "; " ++ z) ++ ascii "]" ++ (byte c ∷ r) ≡ x ++ (ascii "; " ++ (z ++ (ascii "]" ++ (byte c ∷ r)))) = simp append_assoc in
      ap (λ l. run l (want [] (array ps ∷ s))) e ∙ f.go semi [] (array ps ∷ s) _ tt ∙ size-takes-all z t ps s _ (size-bytes z h) ∙ ap (run r) (type-ends-at-mark c (Array t (Some z)) ps s);
}

-- a mark that is no space ends the right side of a `+`, and so the whole
sum-ends-at-mark : (c : Mark) (t u : Ty Bytes) (s : List Frame) → T (fits true [] c) → after (byte c) u (plus t ∷ s) ≡ after (byte c) (IntersectionType t u) s
unfolding byte after fits
sum-ends-at-mark comma t u s h = refl
sum-ends-at-mark paren t u s h = refl
sum-ends-at-mark angle t u s h = refl
sum-ends-at-mark bracket t u s h = refl
sum-ends-at-mark semi t u s h = refl
sum-ends-at-mark space t u s h = absurd h

fits-any : (c : Mark) (i : Bool) → T (fits true [] c) → T (fits i [] c)
unfolding fits
fits-any c true h = h
fits-any c false h = go (closes c) h
  where
    go : (b : Bool) → T (b or false) → T (b or true)
    go true h = tt
    go false h = tt

plus-reads : {x y : Bytes} {t u : Ty Bytes} {i j : Bool} → T (not i) → Reads x t i → Reads y u j → Reads (x ++ ascii " + " ++ y) (IntersectionType t u) true
unfolding run step fits byte
plus-reads {x} {y} {t} {u} {j = j} n f g = record { go = sum }
  where
    sum : ReadsAs (x ++ ascii " + " ++ y) (IntersectionType t u) true
    sum c [] s r h = simp append_assoc (f.go space [] s _ n ∙ g.go c [] (plus t ∷ s) r (fits-any c j h) ∙ ap (run r) (sum-ends-at-mark c t u s h))
    sum c (p ∷ ps) s r h = absurd h

-- ---- lists of types

ender : Open → Mark
ender tuple = paren
ender fn = paren
ender (args b) = angle

-- the text x of a list, and the byte that ends it, are read as the types ts
record Lists (x : Bytes) (ts : Tys Bytes) : Type 0 where
  go : (o : Open) (ps : List Prefix) (k : Tys Bytes → Tys Bytes) (s : List Frame) (r : Bytes)
      → run (x ++ (byte (ender o) ∷ r)) (want [] (list o ps k ∷ s)) ≡ run r (closed o (k ts) ps s)

none_closes : (o : Open) (ps : List Prefix) (k : Tys Bytes → Tys Bytes) (s : List Frame) (r : Bytes)
    → run (ascii "" ++ (byte (ender o) ∷ r)) (want [] (list o ps k ∷ s)) ≡ run r (closed o (k nil) ps s)
unfolding run step ender byte
none_closes tuple ps k s r = refl
none_closes fn ps k s r = refl
none_closes (args b) ps k s r = refl

no_items : Lists (ascii "") nil
no_items = record { go = none_closes }

last-item : (o : Open) (t : Ty Bytes) (ps : List Prefix) (k : Tys Bytes → Tys Bytes) (s : List Frame)
    → after (byte (ender o)) t (list o ps k ∷ s) ≡ closed o (k (cons t nil)) ps s
unfolding after ender byte
last-item tuple t ps k s = refl
last-item fn t ps k s = refl
last-item (args b) t ps k s = refl

ender-fits : (o : Open) (i : Bool) → T (fits i [] (ender o))
unfolding fits ender
ender-fits tuple i = tt
ender-fits fn i = tt
ender-fits (args b) i = tt

items : {x : Bytes} {t : Ty Bytes} {i : Bool} (ts : Tys Bytes) → Reads x t i → Lists (comma_text ts) (bares ts) → Lists (x ++ after_text ts) (cons t (bares ts))
unfolding after_text bares run step fits byte
items {t = t} {i = i} nil f g = record {
  go = λ o ps k s r.
      rw append-nil (f.go (ender o) [] (list o ps k ∷ s) r (ender-fits o i) ∙ ap (run r) (last-item o t ps k s));
}
items {x} {t} (cons u us) f g = record {
  go = λ o ps k s r.
      rw (append_assoc x (after_text (cons u us)) (byte (ender o) ∷ r)) (f.go comma [] (list o ps k ∷ s) _ tt ∙ g.go o ps (λ ts. k (cons t ts)) s r);
}

tuple-reads : {x : Bytes} {ts : Tys Bytes} → Lists x ts → Reads (ascii "(" ++ x ++ ascii ")") (TupleType ts) false
unfolding run step ender byte
tuple-reads {x} {ts} f = record {
  go = λ c ps s r g.
      ap (λ l. run l (begin tuple ps s)) (append_assoc x (ascii ")") (byte c ∷ r)) ∙ f.go tuple ps (λ ts. ts) s (byte c ∷ r) ∙ ap (run r) (type-ends-at-mark c (TupleType ts) ps s);
}

fn-reads : {x y : Bytes} {ts : Tys Bytes} {t : Ty Bytes} {i : Bool} → Lists x ts → T (not i) → Reads y t i
    → Reads (ascii "::std::ops::Fn(" ++ x ++ ascii ") -> " ++ y) (FnType ts t) false
unfolding run step ender byte fits
fn-reads {x} {y} {ts} f n g = record {
  go = λ c ps s r h.
      let e : x ++ ascii ") -> " ++ y ++ (byte c ∷ r) ≡ x ++ (ascii ") -> " ++ (y ++ (byte c ∷ r))) = simp append_assoc in
      ap (λ l. run l (begin fn ps s)) e ∙ f.go fn ps (λ ts. ts) s _ ∙ g.go c (ret ts ∷ ps) s r n;
}

arguments-text : (ts : Tys Bytes) → T (not (is_empty ts)) → arguments_text ts ≡ ascii "<" ++ comma_text ts ++ ascii ">"
unfolding is_empty arguments_text
arguments-text nil h = absurd h
arguments-text (cons t ts) h = refl

app-reads : {x : Bytes} {b : Ty Bytes} (ts : Tys Bytes) {us : Tys Bytes} → Leads x b → T (not (is_empty ts)) → Lists (comma_text ts) us
    → Reads (x ++ arguments_text ts) (TypeApp b us) false
unfolding ascii run ender byte closed
app-reads {x} {b} ts {us} l n f = record {
  go = λ c ps s r g.
      let e : x ++ arguments_text ts ++ (byte c ∷ r) ≡ x ++ (ascii "<" ++ (comma_text ts ++ (ascii ">" ++ (byte c ∷ r)))) = rw (arguments-text ts n) (simp append_assoc) in
      ap (λ l. run l (want ps s)) e ∙ l.reach ps s _
      ∙ ap (run (comma_text ts ++ (ascii ">" ++ (byte c ∷ r)))) (arguments-begin l.last l.before ps s l.full ∙ rw l.ends)
      ∙ f.go (args b) ps (λ ts. ts) s (byte c ∷ r) ∙ ap (run r) (type-ends-at-mark c (TypeApp b us) ps s);
}

-- ---- every sound type

mutual
  unfolding sound Type-to_string bare is_intersection

  reads : (t : Ty Bytes) → T (sound t) → Reads (Type-to_string t) (bare t) (is_intersection t)
  reads (Primitive p) h = lead-reads (primitive-leads p)
  reads (TIdentifier x) h = lead-reads (name-leads x h)
  reads (TypeFromPath p) h = lead-reads (path-leads p h)
  reads (TypeApp b ts) h =
      let k = and_both _ _ h in
      let m = and_both _ _ k.0 in
      let n = and_both _ _ m.0 in
      app-reads ts (base-leads b n.0 m.1) n.1 (lists ts k.1)
  reads (Borrowed t) h = let k = and_both _ _ h in amp-reads k.0 (reads t k.1)
  reads (BorrowedMut t) h = let k = and_both _ _ h in mut-reads k.0 (reads t k.1)
  reads (ImplType t) h = let k = and_both _ _ h in impl-reads k.0 (reads t k.1)
  reads (DynType t) h = let k = and_both _ _ h in dyn-reads k.0 (reads t k.1)
  reads (TupleType ts) h = tuple-reads (lists ts h)
  reads (FnType ts t) h =
      let k = and_both _ _ h in
      let m = and_both _ _ k.0 in
      fn-reads (lists ts m.0) m.1 (reads t k.1)
  reads (IntersectionType l r) h =
      let k = and_both _ _ h in
      let m = and_both _ _ k.0 in
      plus-reads m.0 (reads l m.1) (reads r k.1)
  reads (Array t z) h = let k = and_both _ _ h in array-reads z k.1 (reads t k.0)
  reads (TSynonym d b) h = reads d h
  reads (TMetaData d c o) h = reads d h

  lists : (ts : Tys Bytes) → T (sounds ts) → Lists (comma_text ts) (bares ts)
  lists nil h = no_items
  lists (cons t ts) h = let k = and_both _ _ h in items ts (reads t k.0) (lists ts k.1)

-- the parser gives back a sound type, rid of its wrappers, from its text
pub parse-text : (t : Ty Bytes) → T (sound t) → parse (Type-to_string t) ≡ Some (bare t)
unfolding parse ascii byte fits after wrap
parse-text t h = ap result ((reads t h).go semi [] [] [] tt)
