-- Laws of names, docs, types and paths: from what the code's scans say to the texts.
use Rattle.std.specs.Prelude.{Ok, Err, Result}
use Prim.Native.Nat.{ℕ, suc, ◌+◌, ◌-◌, ◌≤◌, ◌<◌}
use mathlib.Core.Path.{◌≡◌, refl, ap, sym, ◌∙◌, subst}
use mathlib.Core.Bool.{Bool, true, false}
use mathlib.Core.List.{List, []}
use native.Mathlib.Omega.{arith}
use borrow.Author.Tests.{eq-eqb, ne_eqb}
use lib.ListN.{length, get_or}
use Rattle.rast.specs.Bytes.{Bytes, ascii}
use Rattle.rast.specs.Tree.{U8, Ty, Borrowed}
use Rattle.rast.specs.ToString.{Primitive-to_string, Type-to_string}
use Rattle.rast.specs.Indent.{indent}
use Rattle.rast.specs.Doc.{ToDocstringPrefix}
use Rattle.rast.specs.DeclarationToString.{Visibility-to_string}
use Rattle.buffer.specs.Wrote.{Wrote}
use Rattle.buffer.specs.Laid.{clamp, Laid, Fits}
use Rattle.buffer.proofs.Passes.{clamp-of, laid-size, laid-wrote}
use Rattle.encoding.specs.Words.{plain_kinds, identifier_kind, borrowed_kind, max_words, max_depth}
use Rattle.encoding.specs.declared.Refusal.{Refusal}
use Rattle.encoding.specs.declared.Refusal.TheVariants.{EndsEarly}
use Rattle.encoding.specs.declared.Head.TheVariants.{Name, Ref}
use Rattle.encoding.specs.Reading.{Reading, got, stop, ◌>>=◌, read_word, read_below}
use Rattle.encoding.specs.Scans.{scan_of, map_reading}
use Rattle.encoding.specs.Tables.{fixed_names, name_bytes, name_count}
use Rattle.encoding.specs.Tested.{Good}
use Rattle.encoding.specs.Heads.{head_after, read_head}
use Rattle.encoding.specs.Types.{primitives, read_node, read_type, type_at}
use Rattle.encoding.specs.Declarations.{visibility_of, read_visibility, read_name, read_list, read_counted}
use Rattle.encoding.proofs.Tables.{impossible, name-fixed}
use Rattle.encoding.proofs.Heads.{head_at, head-end, plain-head}
use Rattle.encoding.proofs.Types.{node_of}
use Rattle.encoding.proofs.Inside.{word-there, below-there}
use Rattle.encoding.proofs.Reading.{read-got, read-stop, word_in, map-got, map-stop}
use Rattle.text_measure.specs.Lengths.{measure_of}
use Rattle.text_measure.proofs.Measured.{measured-got, measured-stop}
use Rattle.accepted_types.specs.declared.Spot.{Spot}
use Rattle.accepted_types.specs.Accepted.{Readable}
use Rattle.text_type.specs.Written.{Room, Written}
use Rattle.accepted_types.proofs.Accepted.{type-here}
use Rattle.text_pass.specs.Passes.{Chain, last, ◌then◌, run, Checked, Ready, Came, Went, Counts, came}
use Rattle.text_pass.specs.Texts.{visibility_at, name_at, type_text_at, doc_at}
use Rattle.text_pass.proofs.Passes.{Runs, AlongChain, came-to, came-as, came-at, came-bytes, chain_fits, chain-laid, chain-start, counts-bytes, last-came, last-ready, ready-as, ready-bytes, stops-here, went-as, went-last, went-runs, went_then}
use Rattle.text_pass.proofs.Splits.{map-made, text-before, counted-got, counted_none, counted_stop}

-- ---- what a scan says

-- a word below the number of names
pub scanned-word : (ws : List ℕ) (bound at : ℕ) {b : ℕ} {r : Result (ℕ × ℕ) Refusal} {x n : ℕ} → b ≡ bound → r ≡ scan_of (read_below b ws at) → r ≡ Ok (x, n) → read_below bound ws at ≡ got x n
scanned-word ws bound at {b} q e d = ap (λ (c : ℕ). read_below c ws at) (sym q) ∙ read-got (read_below b ws at) e d

pub scanned-none : (ws : List ℕ) (bound at : ℕ) {b : ℕ} {r : Result (ℕ × ℕ) Refusal} {k : Refusal} → b ≡ bound → r ≡ scan_of (read_below b ws at) → r ≡ Err k → read_below bound ws at ≡ stop k
scanned-none ws bound at {b} q e d = ap (λ (c : ℕ). read_below c ws at) (sym q) ∙ read-stop (read_below b ws at) e d

-- ---- what was accepted is there

-- what a text that was accepted is made of: where that is refused, so is the text
pub read_of : {A : Type 0} (y : Reading A) {o : List ℕ} {p : ℕ} (x : Reading Bytes) → ((k : Refusal) → y ≡ stop k → x ≡ stop k) → Ready true o p x → Readable y
read_of (got a n) x stops r = record { value = a; end = n; reads = refl }
read_of (stop k) x stops r = impossible (let e = stops k refl in let d = (r.room refl).reads in cc)

-- a word below b
pub record BelowThere (b : ℕ) (ws : List ℕ) (at : ℕ) : Type 0 where
  pub here : at < length ws
  pub below : get_or ws at 0 < b
  pub reads : read_below b ws at ≡ got (get_or ws at 0) (at + 1)

pub below_of : (b : ℕ) (ws : List ℕ) (at : ℕ) {o : List ℕ} {p : ℕ} (x : Reading Bytes) → ((k : Refusal) → read_below b ws at ≡ stop k → x ≡ stop k) → Ready true o p x → BelowThere b ws at
below_of b ws at x stops r =
    let m = read_of (read_below b ws at) x stops r in
    let t = below-there b ws at m.reads in
    record { here = t.here; below = subst (λ (z : ℕ). z < b) t.same t.below; reads = m.reads ∙ ap (λ (z : ℕ). got z m.end) t.same ∙ ap (got (get_or ws at 0)) t.next }

-- any word
pub word_of : (ws : List ℕ) (at : ℕ) {o : List ℕ} {p : ℕ} (x : Reading Bytes) → ((k : Refusal) → read_word ws at ≡ stop k → x ≡ stop k) → Ready true o p x → at < length ws
word_of ws at x stops r = (word-there ws at (read_of (read_word ws at) x stops r).reads).here

-- ---- texts that are made of one word

-- the word is below b
pub record OneWord (b : ℕ) (ws : List ℕ) (at : ℕ) (x : Reading Bytes) (make : ℕ → Bytes) : Type 0 where
  pub when-read : {v n : ℕ} → read_below b ws at ≡ got v n → x ≡ got (make v) n
  pub when-refused : {k : Refusal} → read_below b ws at ≡ stop k → x ≡ stop k

module _ {b : ℕ} {ws : List ℕ} {at : ℕ} {x : Reading Bytes} {make : ℕ → Bytes} (f : OneWord b ws at x make) where
  -- what a scan of the word says
  module _ {c : ℕ} (q : c ≡ b) {s : Result (ℕ × ℕ) Refusal} (e : s ≡ scan_of (read_below c ws at)) {write : Bool} {o : List ℕ} {p : ℕ} where
    pub scanned-went : {v n : ℕ} {o' : List ℕ} {p' : ℕ} → s ≡ Ok (v, n) → Laid write o p (make v) o' p' → Went write o p x o' (Ok (n, p'))
    scanned-went d l = came (came-as (sym (f.when-read (scanned-word ws b at q e d))) (came-bytes _ l))

    pub scanned-refused : {k : Refusal} → s ≡ Err k → Went write o p x o (Err k)
    scanned-refused d = stops-here (f.when-refused (scanned-none ws b at q e d))

  -- the text was accepted
  module _ {o : List ℕ} {p : ℕ} (r : Ready true o p x) where
    pub word_below : BelowThere b ws at
    word_below = below_of b ws at x (λ k e. f.when-refused e) r

    pub word_fits : Fits true o p (make (get_or ws at 0))
    word_fits = ready-bytes (ready-as (f.when-read word_below.reads) r)

    pub word-came : {o' : List ℕ} {p' : ℕ} → Laid true o p (make (get_or ws at 0)) o' p' → Came true o p x o' (at + 1) p'
    word-came l = came-as (sym (f.when-read word_below.reads)) (came-bytes (at + 1) l)

module _ (ws pairs : List ℕ) (text : Bytes) (at : ℕ) where
  pub name-word : OneWord (name_count pairs) ws at (name_at ws pairs text at) (name_bytes pairs text)
  unfolding read_name
  name-word = record { when-read = λ e. rw e; when-refused = λ e. rw e }

  pub doc-word : (level : ℕ) → OneWord (name_count pairs) ws at (doc_at ws pairs text level at) (λ x. ToDocstringPrefix (name_bytes pairs text x) (indent level))
  doc-word level = record {
    when-read = λ e. map-got (λ d. ToDocstringPrefix d (indent level)) (name-word.when-read e);
    when-refused = λ e. map-stop (λ d. ToDocstringPrefix d (indent level)) (name-word.when-refused e);
  }

pub visibility-word : (ws : List ℕ) (at : ℕ) → OneWord 2 ws at (visibility_at ws at) (λ v. Visibility-to_string (visibility_of v))
unfolding map_reading read_visibility
visibility-word ws at = record { when-read = λ e. rw e; when-refused = λ e. rw e }

pub visible : {v : ℕ} → v ≡ 0 → Visibility-to_string (visibility_of v) ≡ ascii "pub "
unfolding visibility_of Visibility-to_string
visible {v} z = rw (eq-eqb v 0 z)

pub hidden : {v : ℕ} → (v ≡ 0 → ⊥) → Visibility-to_string (visibility_of v) ≡ []
unfolding visibility_of Visibility-to_string ascii
hidden {v} z = rw (ne_eqb v 0 z)

-- ---- types

pub room-type : {o : List ℕ} {p : ℕ} (x : Reading (Ty Bytes)) → Room o p (λ b. b) (map_reading Type-to_string x) → Room o p Type-to_string x
unfolding map_reading
room-type {o} {p} (got t n) m =
    let v : m.value ≡ Type-to_string t = cc m.reads in
    record { value = t; end = n; reads = refl; room = subst (λ (z : Bytes). p + length z ≤ length o) v m.room }
room-type (stop k) m = impossible (let e = m.reads in cc)

module _ {write : Bool} {o : List ℕ} {p : ℕ} (x : Reading (Ty Bytes)) where
  pub went-written : {o' : List ℕ} (s : Spot) → write ≡ true → Written o p Type-to_string x o' s → Went write o p (map_reading Type-to_string x) o' (Ok (s.next, s.pos))
  went-written s e w = came (record { bytes = Type-to_string w.value; reads = map-got Type-to_string w.reads; laid = laid-wrote e w.wrote })

  pub went-measured : {r : Result (ℕ × ℕ) Refusal} {n b p' : ℕ} → write ≡ false → r ≡ measure_of x → r ≡ Ok (n, b) → p' ≡ clamp (p + b) → Went write o p (map_reading Type-to_string x) o (Ok (n, p'))
  went-measured {b = b} w e d c =
      let s = measured-got x e d in
      came (record {
        bytes = Type-to_string s.value;
        reads = map-got Type-to_string s.reads;
        laid = laid-size w (clamp-of (p + b) c) s.size;
      })

  pub went-refused : {r : Result (ℕ × ℕ) Refusal} {k : Refusal} → r ≡ measure_of x → r ≡ Err k → Went write o p (map_reading Type-to_string x) o (Err k)
  went-refused e d = stops-here (map-stop Type-to_string (measured-stop x e d))

-- ---- types of which the first word tells enough

-- a name as a type is the name's text
name-map : (ws : List ℕ) (name : ℕ → Bytes) (again : ℕ → Reading (Ty Bytes)) (x : Reading ℕ)
    → map_reading Type-to_string ((x >>= λ v q. got (Name v) q) >>= λ h p. read_node ws name again h p) ≡ x >>= λ v q. got (name v) q
unfolding map_reading read_node Type-to_string
name-map ws name again (got v q) = refl
name-map ws name again (stop k) = refl

-- the text of a type that is at most so many types deep: `max_depth`, or one less behind a borrow
abbrev pub text_within : ℕ → List ℕ → List ℕ → Bytes → ℕ → Reading Bytes
text_within deep ws pairs text at = map_reading Type-to_string (read_type (name_count pairs) ws (name_bytes pairs text) deep at)

module _ (deep : ℕ) (ws pairs : List ℕ) (text : Bytes) (at : ℕ) where
  pub ended-text : length ws ≤ at → text_within (suc deep) ws pairs text at ≡ stop EndsEarly
  unfolding read_type map_reading
  ended-text h = rw (head-end (name_count pairs) ws at h)

  pub plain-text : at < length ws → get_or ws at 0 < plain_kinds → text_within (suc deep) ws pairs text at ≡ got (Primitive-to_string (get_or primitives (get_or ws at 0) U8)) (at + 1)
  unfolding read_type read_node map_reading Type-to_string
  plain-text h k = rw (plain-head (name_count pairs) ws at h k)

  pub named-text : at < length ws → get_or ws at 0 ≡ identifier_kind → text_within (suc deep) ws pairs text at ≡ name_at ws pairs text (at + 1)
  unfolding read_type read_name head_after
  named-text h k = rw (head_at (name_count pairs) ws at h, k) (name-map ws (name_bytes pairs text) (read_type (name_count pairs) ws (name_bytes pairs text) deep) (read_below (name_count pairs) ws (at + 1)))

  -- counted by the length of a plain type, or as a name
  pub plain-counts : {p l q : ℕ} → at < length ws → get_or ws at 0 < plain_kinds → l ≡ length (Primitive-to_string (get_or primitives (get_or ws at 0) U8)) → clamp q ≡ clamp (p + l)
      → Came false [] p (text_within (suc deep) ws pairs text at) [] (at + 1) q
  plain-counts h k e c = came-as (sym (plain-text h k)) (came-bytes (at + 1) (laid-size refl c e))

  pub named-counts : {p : ℕ} {r : Result (ℕ × ℕ) Refusal} → at < length ws → get_or ws at 0 ≡ identifier_kind → Counts p (name_at ws pairs text (at + 1)) r → Counts p (text_within (suc deep) ws pairs text at) r
  named-counts h k w = went-as (sym (named-text h k)) w

-- ---- borrows

-- a borrow's text has "&" before that of what is borrowed
borrow-runs : (ws : List ℕ) (name : ℕ → Bytes) (again : ℕ → Reading (Ty Bytes)) (at : ℕ)
    → Runs (map_reading Type-to_string (read_node ws name again Ref at)) (got (ascii "&") at then λ q. last (map_reading Type-to_string (again at)))
unfolding read_node Type-to_string
borrow-runs ws name again at = record { same = map-made Type-to_string Borrowed (again at) ∙ (text-before (ascii "&") Type-to_string at (again at)).same }

module _ (ws pairs : List ℕ) (text : Bytes) (at : ℕ) (h : at < length ws) (k : get_or ws at 0 ≡ borrowed_kind) where
  borrow-head : read_head (name_count pairs) ws at ≡ got Ref (at + 1)
  unfolding head_after
  borrow-head = rw (head_at (name_count pairs) ws at h, k)

  -- what is borrowed is one level less deep
  borrow-within : Runs (type_text_at ws pairs text at) (got (ascii "&") (at + 1) then λ q. last (text_within (max_depth - 1) ws pairs text (at + 1)))
  unfolding read_type
  borrow-within = rw borrow-head (borrow-runs ws (name_bytes pairs text) (read_type (name_count pairs) ws (name_bytes pairs text) (max_depth - 1)) (at + 1))

  pub borrow-counts : {p : ℕ} {r : Result (ℕ × ℕ) Refusal} → Counts (p + 1) (text_within (max_depth - 1) ws pairs text (at + 1)) r → Counts p (type_text_at ws pairs text at) r
  unfolding ascii
  borrow-counts w = went-runs borrow-within (went_then (counts-bytes refl) (went-last w))

  -- where the borrow was accepted, what is borrowed is a type like any other
  borrow-accepted : {o : List ℕ} {p : ℕ} → Ready true o p (type_text_at ws pairs text at)
      → Runs (type_text_at ws pairs text at) (got (ascii "&") (at + 1) then λ q. last (type_text_at ws pairs text (at + 1)))
  borrow-accepted r =
      let m = room-type (type_at ws pairs text at) (r.room refl) in
      let n = node_of ws pairs text at m.reads borrow-head in
      record { same = ap (map_reading Type-to_string) (m.reads ∙ sym n) ∙ (borrow-runs ws (name_bytes pairs text) (type_at ws pairs text) (at + 1)).same }

-- ---- a type that was accepted, by its first word

-- the tables were tested too
pub record TypeReady (ws pairs : List ℕ) (text : Bytes) (at : ℕ) (o : List ℕ) (p : ℕ) : Type 0 where
  pub checked : Checked ws pairs text
  pub ready : Ready true o p (type_text_at ws pairs text at)

module _ {ws pairs : List ℕ} {text : Bytes} {at : ℕ} {o : List ℕ} {p : ℕ} (a : TypeReady ws pairs text at o p) where
  -- what the writer of types asks for, and what it gives
  pub type-asked : Good pairs text × Room o p Type-to_string (type_at ws pairs text at)
  type-asked = (a.checked.good, room-type (type_at ws pairs text at) (a.ready.room refl))

  pub type-came : {o' : List ℕ} (s : Spot) → Written o p Type-to_string (type_at ws pairs text at) o' s → Came true o p (type_text_at ws pairs text at) o' s.next s.pos
  type-came s w = came-to (went-written (type_at ws pairs text at) s refl w) refl

  pub type-there : at < length ws
  type-there = type-here ws pairs text at type-asked.1.reads

  pub type-early : at < max_words
  type-early = omega (arith, type-there, a.checked.few)

  module _ (k : get_or ws at 0 < plain_kinds) where
    pub plain-asked : (get_or ws at 0 < plain_kinds) × (p + length (Primitive-to_string (get_or primitives (get_or ws at 0) U8)) ≤ length o)
    plain-asked = (k, (ready-bytes (ready-as (plain-text (max_depth - 1) ws pairs text at type-there k) a.ready)).room refl)

    pub plain-came : {o' : List ℕ} {p' : ℕ} → Wrote o p (Primitive-to_string (get_or primitives (get_or ws at 0) U8)) o' p' → Came true o p (type_text_at ws pairs text at) o' (at + 1) p'
    plain-came w = came-as (sym (plain-text (max_depth - 1) ws pairs text at type-there k)) (came-bytes (at + 1) (laid-wrote refl w))

  module _ (k : get_or ws at 0 ≡ identifier_kind) where
    pub named-asked : Checked ws pairs text × Ready true o p (name_at ws pairs text (at + 1))
    named-asked = (a.checked, ready-as (named-text (max_depth - 1) ws pairs text at type-there k) a.ready)

    pub named-came : {o' : List ℕ} {p' : ℕ} → Came true o p (name_at ws pairs text (at + 1)) o' (at + 1 + 1) p' → Came true o p (type_text_at ws pairs text at) o' (at + 2) p'
    named-came c = came-at (let e : at + 1 + 1 ≡ at + 2 = omega arith in e) (came-as (sym (named-text (max_depth - 1) ws pairs text at type-there k)) c)

  module _ (k : get_or ws at 0 ≡ borrowed_kind) where
    borrow-chain : AlongChain true o p (type_text_at ws pairs text at) o p (got (ascii "&") (at + 1) then λ q. last (type_text_at ws pairs text (at + 1)))
    borrow-chain = chain-start (borrow-accepted ws pairs text at type-there k a.ready) a.ready

    pub borrow-room : p + 1 ≤ length o
    unfolding ascii
    borrow-room = (chain_fits borrow-chain).room refl

    module _ {o' : List ℕ} {p' : ℕ} (w : Wrote o p (ascii "&") o' p') where
      pub borrow-asked : Checked ws pairs text × Ready true o' p' (type_text_at ws pairs text (at + 1))
      borrow-asked = (a.checked, last-ready (chain-laid borrow-chain (laid-wrote refl w)))

      pub borrow-came : {o'' : List ℕ} {n q : ℕ} → Came true o' p' (type_text_at ws pairs text (at + 1)) o'' n q → Came true o p (type_text_at ws pairs text at) o'' n q
      borrow-came c = last-came (chain-laid borrow-chain (laid-wrote refl w)) c

-- the empty name is no doc
pub no-doc-text : (pairs : List ℕ) (text : Bytes) (x : ℕ) (ind : Bytes) → x ≡ 0 → [] ≡ ToDocstringPrefix (name_bytes pairs text x) ind
unfolding ToDocstringPrefix fixed_names ascii
no-doc-text pairs text x ind e = rw (name-fixed pairs text x (omega arith), e)

-- ---- a count stands first

-- if it is 0 the text is fixed, else it is that of a chain
pub record CountFirst (ws : List ℕ) (at : ℕ) (x : Reading Bytes) (none : Bytes) (some : ℕ → ℕ → Chain) : Type 0 where
  pub when-none : {n p : ℕ} → read_word ws at ≡ got n p → n ≡ 0 → x ≡ got none p
  pub when-some : {n p : ℕ} → read_word ws at ≡ got n p → 0 < n → Runs x (some n p)
  pub when-refused : {k : Refusal} → read_word ws at ≡ stop k → x ≡ stop k

pub counted-first : {A : Type 0} (f : List A → Bytes) (ws : List ℕ) (item : ℕ → Reading A) (at : ℕ) {some : ℕ → ℕ → Chain}
    → ((n p : ℕ) → 0 < n → map_reading f (read_list item n p) ≡ run (some n p)) → CountFirst ws at (map_reading f (read_counted ws item at)) (f []) some
counted-first f ws item at e = record {
  when-none = λ d z. counted_none f ws item at d z;
  when-some = λ d h. record { same = counted-got f ws item at d ∙ e _ _ h };
  when-refused = λ d. counted_stop f ws item at d;
}

module _ {ws : List ℕ} {at : ℕ} {x : Reading Bytes} {none : Bytes} {some : ℕ → ℕ → Chain} (f : CountFirst ws at x none some) where
  -- what a scan of the count says
  module _ {s : Result (ℕ × ℕ) Refusal} (e : s ≡ scan_of (read_word ws at)) {write : Bool} {o : List ℕ} {p : ℕ} where
    pub count_none : {n q : ℕ} {o' : List ℕ} {p' : ℕ} → s ≡ Ok (n, q) → n ≡ 0 → Laid write o p none o' p' → Came write o p x o' q p'
    count_none d z l = came-as (sym (f.when-none (read-got (read_word ws at) e d) z)) (came-bytes _ l)

    pub count-some : {n q : ℕ} → s ≡ Ok (n, q) → (n ≡ 0 → ⊥) → Ready write o p x → AlongChain write o p x o p (some n q)
    count-some d z r = chain-start (f.when-some (read-got (read_word ws at) e d) (omega arith)) r

    pub count-refused : {k : Refusal} → s ≡ Err k → Went write o p x o (Err k)
    count-refused d = stops-here (f.when-refused (read-stop (read_word ws at) e d))

  -- the text was accepted
  module _ {o : List ℕ} {p : ℕ} (r : Ready true o p x) where
    pub count-there : at < length ws
    count-there = word_of ws at x (λ k d. f.when-refused d) r

    pub none-fits : get_or ws at 0 ≡ 0 → Fits true o p none
    none-fits z = ready-bytes (ready-as (f.when-none (word_in ws at count-there) z) r)

    pub there-none : {o' : List ℕ} {p' : ℕ} → get_or ws at 0 ≡ 0 → Laid true o p none o' p' → Came true o p x o' (at + 1) p'
    there-none z l = came-as (sym (f.when-none (word_in ws at count-there) z)) (came-bytes (at + 1) l)

    pub there-some : (get_or ws at 0 ≡ 0 → ⊥) → AlongChain true o p x o p (some (get_or ws at 0) (at + 1))
    there-some z = chain-start (f.when-some (word_in ws at count-there) (omega arith)) r
