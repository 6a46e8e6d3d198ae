-- What the buffer holds: the pieces, one behind the other, or the words as they are.
use Rattle.std.specs.Prelude.{Option, Ok, Err, Some, None, Result}
use Rattle.std.proofs.Common.{◌≡◌, ℕ, ◌+◌, ◌-◌, ◌<◌, ◌≤◌, Bool, true, false, eqb, ltb, List, ◌++◌, length, take, drop, sym, refl, ap, ◌∙◌, subst, arith, length-append, le-ltb, eq-eqb}
use lib.Seq.{sets}
use Rattle.rast.specs.Bytes.{Bytes}
use Rattle.rast.specs.Tree.{Global, PMemberSelect, Ty}
use Rattle.rast.specs.DeclarationToString.{Expand}
use Rattle.encoding.specs.declared.Refusal.{Refusal}
use Rattle.encoding.specs.declared.Refusal.TheVariants.{LeftOver, TooDeep, BufferTooShort}
use Rattle.encoding.specs.Refusals.{pick, map_answer, unless}
use Rattle.encoding.specs.Reading.{Reading, got, stop, whole}
use Rattle.encoding.specs.Scans.{map_reading}
use Rattle.encoding.specs.Tables.{name_bytes, name_count, check_tables}
use Rattle.encoding.specs.Heads.{read_head}
use Rattle.encoding.specs.Types.{read_node, read_type}
use Rattle.encoding.proofs.Tables.{impossible}
use Rattle.encoding.proofs.Reading.{map-got}
use Rattle.encoding.proofs.Answers.{map-unless, given-whole}
use Rattle.encoding.proofs.Types.{bind-got, node-parts}
use Rattle.buffer.specs.Wrote.{Wrote}
use Rattle.accepted_types.specs.Accepted.{Readable}
use Rattle.buffer.proofs.Laws.{wrote_then, part_length}
use Rattle.tree_words.specs.Renamed.{renamed}
use Rattle.tree_words.specs.Encode.{token_word, root_word, names, path_tokens, tokens, encode}
use Rattle.tree_words.specs.Numbered.{tree_at, tree_of}
use Rattle.tree_words.proofs.Renaming.{encode-words, type-renamed, tree-run}
use Rattle.rebuild_spec.specs.Laying.{depth}
use Rattle.rebuild_spec.proofs.Depths.{within, tree-deep}
use Rattle.rebuild_rules.specs.Scans.{SpansTo, depth_of}
use Rattle.known_paths.specs.Matches.{argument}
use Rattle.known_paths.specs.Steps.{when, and_then}
use Rattle.shapes.specs.Accepted.{acceptance}
use Rattle.shapes.specs.Shapes.{IsObject, IsObjectOrPointer}
use Rattle.shapes.specs.Initialization.{own_number, ObjectType, PtrType, or_this, new_underlying, TypeAtInitialization}
use Rattle.rebuild_type.specs.Calls.{RebuiltWords, room_of, zeros, laid_down}
use Rattle.rebuild_type.specs.Attempts.{same_words, Fills}
use Rattle.shapes.proofs.Answers.{answer-given, answer-refused}
use Rattle.rebuild_type.proofs.Calls.{down-over, down-deep, down-front, read-fills, copied-fills, run-whole}
use Rattle.rebuild_initial.specs.Initialized.{whole_initialized, type_within, pointer_words, uninit_words, initial_words, new_array, Named, Pieces, pieces, unchanged, Becomes, FillsWhole, Shallow}
use Rattle.rebuild_initial.specs.Calls.{laid_init, type_initialized}
use Rattle.rebuild_initial.proofs.Changes.{one-words, one-depth}

-- ---- the type at initialization, by the new array

module _ (bytes : ℕ → Bytes) (t : Ty ℕ) where
  abbrev pointed : Ty ℕ → Ty ℕ
  pointed v = pick (IsObject (renamed bytes t)) (ObjectType own_number v) (PtrType own_number v)

  initial-is : TypeAtInitialization own_number (renamed bytes) t ≡ or_this t (and_then (new_array bytes t) λ v. Some (pointed v))
  unfolding TypeAtInitialization new_array when and_then
  initial-is = ap (or_this t) (go (IsObjectOrPointer (renamed bytes t)) (argument 0 (Expand t)) (new_underlying own_number (renamed bytes)))
    where
      go : (b : Bool) (x : Option (Ty ℕ)) (g : Ty ℕ → Option (Ty ℕ)) → when b (and_then x λ s. and_then (g s) λ v. Some (pointed v)) ≡ and_then (when b (and_then x g)) λ v. Some (pointed v)
      go true None g = refl
      go true (Some s) g = refl
      go false x g = refl

  initial-same : new_array bytes t ≡ None → TypeAtInitialization own_number (renamed bytes) t ≡ t
  unfolding or_this and_then
  initial-same e = initial-is ∙ rw e refl

  initial-new : {v : Ty ℕ} → new_array bytes t ≡ Some v → TypeAtInitialization own_number (renamed bytes) t ≡ pointed v
  unfolding or_this and_then
  initial-new e = initial-is ∙ rw e refl

  pointed-words : (v : Ty ℕ) → encode (pointed v) ≡ pointer_words (pick (IsObject (renamed bytes t)) 11 12) ++ encode v
  unfolding ObjectType PtrType encode tokens path_tokens root_word names token_word
  pointed-words v = go (IsObject (renamed bytes t))
    where
      go : (b : Bool) → encode (pick b (ObjectType own_number v) (PtrType own_number v)) ≡ pointer_words (pick b 11 12) ++ encode v
      go true = one-words (PMemberSelect (PMemberSelect Global 10) 11) v
      go false = one-words (PMemberSelect (PMemberSelect Global 10) 12) v

  pointed-depth : (v : Ty ℕ) → 0 < depth v → depth (pointed v) ≡ 1 + depth v
  unfolding ObjectType PtrType
  pointed-depth v h = go (IsObject (renamed bytes t))
    where
      go : (b : Bool) → depth (pick b (ObjectType own_number v) (PtrType own_number v)) ≡ 1 + depth v
      go true = one-depth (PMemberSelect (PMemberSelect Global 10) 11) v h
      go false = one-depth (PMemberSelect (PMemberSelect Global 10) 12) v h

-- ---- lengths

pieces-length : (name : ℕ) (x y : List ℕ) {n : ℕ} → length x + length y ≡ n → length (pointer_words name ++ (x ++ (uninit_words ++ y))) ≡ 15 + n
pieces-length name x y e = omega (arith, e, length-append x (uninit_words ++ y))

-- ---- the element

module _ (ws pairs : List ℕ) (element : ℕ) {deepest : Bool} (s : Shallow ws pairs element deepest) where
  pub element-spans : SpansTo (tree_at ws pairs element) (element + (length ws - element))
  element-spans =
      let i : length ws ≡ element + (length ws - element) = omega (arith, s.inside) in
      record { tree = s.tree; reads = s.reads ∙ ap (got s.tree) i }

  pub element-within : deepest ≡ false → false ≡ ltb 61 (depth_of (tree_at ws pairs element))
  unfolding depth_of
  element-within e = rw s.reads (sym (le-ltb 61 (depth s.tree) (s.shallow e)))

pub whole-readable : {ws pairs : List ℕ} {deepest : Bool} → FillsWhole ws pairs deepest → Readable (tree_at ws pairs 0)
whole-readable {ws} w = record { value = w.tree; end = length ws; reads = w.reads }

-- ---- a type that changes

module _ (ws pairs : List ℕ) (text : Bytes) where
  abbrev bytes : ℕ → Bytes
  bytes = name_bytes pairs text

  abbrev laid : Reading RebuiltWords
  laid = map_reading (laid_init bytes) (tree_at ws pairs 0)

  pub record Changes (start element end deep : ℕ) : Type 0 where
    pub tree : Ty ℕ
    pub last : ℕ
    pub reads : tree_at ws pairs 0 ≡ got tree last
    pub own : start ≤ element
    pub inner : element ≤ end
    pub words : encode (TypeAtInitialization own_number (renamed bytes) tree) ≡ initial_words ws (pick (IsObject (renamed bytes tree)) 11 12) start element end
    pub size : length (encode (TypeAtInitialization own_number (renamed bytes) tree)) ≡ 15 + (end - start)
    pub deeper : depth (TypeAtInitialization own_number (renamed bytes) tree) ≡ 3 + deep

  -- the element stands there, up to the end of the words
  pub element-shallow : {start element : ℕ} {deepest : Bool} → FillsWhole ws pairs deepest → Becomes (new_array bytes) 2 ws pairs 0 (Some (start, element)) → Shallow ws pairs element deepest
  element-shallow {start} {element} {deepest} w b = go b.by
    where
      go : Pieces ws pairs 2 b.tree b.end (new_array bytes b.tree) (Some (start, element)) → Shallow ws pairs element deepest
      go (pieces {u = u} e h l k z d a) =
          let i : b.end ≡ length ws = cc (b.reads, w.reads) in
          let t : b.tree ≡ w.tree = cc (b.reads, w.reads) in
          record { tree = u; inside = l; reads = k ∙ ap (got u) i; shallow = λ s. omega (arith, w.shallow s, ap depth t, a) }

  pub changes : {start element : ℕ} {deepest : Bool} → FillsWhole ws pairs deepest → Becomes (new_array bytes) 2 ws pairs 0 (Some (start, element)) → Changes start element (length ws) (depth_of (tree_at ws pairs element))
  unfolding depth_of
  changes {start} {element} w b = go b.by
    where
      go : Pieces ws pairs 2 b.tree b.end (new_array bytes b.tree) (Some (start, element)) → Changes start element (length ws) (depth_of (tree_at ws pairs element))
      go (pieces {array = v} {u = u} e h l c z d _) =
          let i : b.end ≡ length ws = cc (b.reads, w.reads) in
          let a = tree-run ws pairs element l c in
          let j = encode-words u in
          let part : take (length ws - element) (drop element ws) ≡ encode u =
          (let n : length ws - element ≡ length (encode u) = omega (arith, a.1, i, j) in rw n a.0.words) in
          let q = initial-new bytes b.tree e in
          let all : encode (TypeAtInitialization own_number (renamed bytes) b.tree) ≡ initial_words ws (pick (IsObject (renamed bytes b.tree)) 11 12) start element (length ws) =
          ap encode q ∙ pointed-words bytes b.tree v ∙ ap (λ x. pointer_words (pick (IsObject (renamed bytes b.tree)) 11 12) ++ x) (z ∙ ap (λ x. take (element - start) (drop start ws) ++ (uninit_words ++ x)) (sym part)) in
          record {
            tree = b.tree;
            last = b.end;
            reads = b.reads;
            own = h;
            inner = l;
            words = all;
            size = ap length all ∙ pieces-length (pick (IsObject (renamed bytes b.tree)) 11 12) (take (element - start) (drop start ws)) (take (length ws - element) (drop element ws))
                (omega (arith, part_length ws start (element - start) (omega (arith, l, h)), ap length part, j, a.1, i, h));
            deeper = ap depth q ∙ pointed-depth bytes b.tree v (omega (arith, d)) ∙ omega (arith, d, ap depth_of c);
          }

  module _ {start element end deep count : ℕ} (c : Changes start element end deep) (o : List ℕ) (n : count ≡ 15 + (end - start)) where
    pub change-over : {o' : List ℕ} → room_of o < count → o' ≡ zeros o → Fills laid o o' (Err BufferTooShort)
    change-over h z = read-fills (map-got (laid_init bytes) c.reads) (down-over o (laid_init bytes c.tree) (omega (arith, h, n, c.size)) z)

    pub change-deep : {o' : List ℕ} → count ≤ room_of o → 61 < deep → o' ≡ zeros o → Fills laid o o' (Err TooDeep)
    change-deep h d z = read-fills (map-got (laid_init bytes) c.reads) (down-deep o (laid_init bytes c.tree) (omega (arith, h, n, c.size)) (omega (arith, d, c.deeper)) z)

    pub change-front : {name : ℕ} {o' : List ℕ} → count ≤ room_of o → deep ≤ 61 → Named bytes (tree_at ws pairs 0) name → o' ≡ sets o 0 (initial_words ws name start element end) → Fills laid o o' (Ok count)
    change-front {name} {o'} h d k z =
        let i = k.names c.tree c.last c.reads in
        let w : o' ≡ sets o 0 (encode (TypeAtInitialization own_number (renamed bytes) c.tree)) = z ∙ ap (sets o 0) (ap (λ x. initial_words ws x start element end) i ∙ sym c.words) in
        read-fills (map-got (laid_init bytes) c.reads) (down-front o (laid_init bytes c.tree) (omega (arith, h, n, c.size)) (omega (arith, d, c.deeper)) (omega (arith, h, n, c.size)) w (omega (arith, n, c.size)))

  -- ---- a type that stays

  pub stays : {o o' : List ℕ} {r : Result ℕ Refusal} {c : Option (ℕ × ℕ)} {deepest : Bool} → FillsWhole ws pairs deepest → Becomes (new_array bytes) 2 ws pairs 0 c → c ≡ None → (r, o') ≡ laid_down o (Ok (same_words ws 0)) → Fills laid o o' r
  stays {o} {o'} {r} {c} w b e k = go (subst (Pieces ws pairs 2 b.tree b.end (new_array bytes b.tree)) e b.by)
    where
      go : Pieces ws pairs 2 b.tree b.end (new_array bytes b.tree) None → Fills laid o o' r
      go (unchanged d) =
          let t = b.tree in
          let q : TypeAtInitialization own_number (renamed bytes) t ≡ t = initial-same bytes t d in
          let i : b.end ≡ length ws = cc (b.reads, w.reads) in
          let a = tree-run ws pairs 0 (omega arith) b.reads in
          let s : encode t ≡ ws = run-whole a.0 (omega (arith, a.1, i, encode-words t)) in
          copied-fills (laid_init bytes) depth b.reads (tree-deep ws pairs 0 b.reads) (rw (q, s) refl) k

-- ---- the pieces, one behind the other

pub four-wrote : (o a b c d : List ℕ) (p q r : ℕ) {o₁ o₂ o₃ o₄ : List ℕ} → o₁ ≡ sets o 0 a → o₂ ≡ sets o₁ p b → o₃ ≡ sets o₂ q c → o₄ ≡ sets o₃ r d → p ≡ length a → q ≡ p + length b → r ≡ q + length c
    → o₄ ≡ sets o 0 (a ++ (b ++ (c ++ d)))
four-wrote o a b c d p q r {o₁} {o₂} {o₃} {o₄} e f g h i j k =
    let first : Wrote o 0 a o₁ p = record { bytes = e; next = omega (arith, i) } in
    let second : Wrote o₁ p b o₂ q = record { bytes = f; next = j } in
    let third : Wrote o₂ q c o₃ r = record { bytes = g; next = k } in
    let fourth : Wrote o₃ r d o₄ (r + length d) = record { bytes = h; next = refl } in
    (wrote_then first (wrote_then second (wrote_then third fourth))).bytes

-- ---- the call

-- the tree at the front, if it is at most `deep` types deep
abbrev tree_within : ℕ → List ℕ → List ℕ → Reading (Ty ℕ)
tree_within deep ws pairs = read_type (name_count pairs) ws (λ x. x) deep 0

deeper-tree : (ws pairs : List ℕ) {t : Ty ℕ} {n : ℕ} → tree_within 63 ws pairs ≡ got t n → tree_at ws pairs 0 ≡ got t n
unfolding read_type
deeper-tree ws pairs {t} {n} e =
    let d = bind-got (read_head (name_count pairs) ws 0) (λ h p. read_node ws (λ x. x) (read_type (name_count pairs) ws (λ x. x) 62) h p) e in
    rw d.first (node-parts (name_count pairs) ws (λ x. x) 62 0 e d.first)

-- what is read is accepted whatever is made of it
accept-mapped : {A B : Type 0} (f : A → B) (size : ℕ) (x : Reading A) → acceptance (whole size (map_reading f x)) ≡ acceptance (whole size x)
unfolding whole map_reading
accept-mapped f size (got a n) = go (eqb n size)
  where
    go : (b : Bool) → acceptance (pick b (Ok (f a)) (Err LeftOver)) ≡ acceptance (pick b (Ok a) (Err LeftOver))
    go true = refl
    go false = refl
accept-mapped f size (stop r) = refl

module _ (ws pairs : List ℕ) (text : Bytes) {c : Result (Unit {0}) Refusal} (deep : ℕ) (e : c ≡ acceptance (whole (length ws) (type_within deep ws pairs text))) where
  tree-accepted : c ≡ acceptance (whole (length ws) (tree_within deep ws pairs))
  tree-accepted =
      e ∙ ap (λ x. acceptance (whole (length ws) x)) (type-renamed (name_bytes pairs text) (λ x. x) (name_count pairs) ws deep 0)
      ∙ accept-mapped (renamed (name_bytes pairs text)) (length ws) (tree_within deep ws pairs)

  -- a type that is read with less depth is read, and less deep
  whole-within : (deepest : Bool) → ((t : Ty ℕ) → tree_within deep ws pairs ≡ got t (length ws) → tree_at ws pairs 0 ≡ got t (length ws)) → (deepest ≡ false → deep ≤ 63) → c ≡ Ok tt → FillsWhole ws pairs deepest
  unfolding unless
  whole-within deepest up low d =
      answer-given (whole (length ws) (tree_within deep ws pairs)) tree-accepted d (FillsWhole ws pairs deepest) λ t i.
      let r = (given-whole (Ok tt) (length ws) (tree_within deep ws pairs) i).1 in
      record { tree = t; reads = up t r; shallow = λ s. omega (arith, low s, within (name_count pairs) ws deep 0 t (length ws) r) }

module _ (ws pairs : List ℕ) (text : Bytes) {c : Result (Unit {0}) Refusal} where
  pub lower-whole : c ≡ acceptance (whole (length ws) (type_within 63 ws pairs text)) → c ≡ Ok tt → FillsWhole ws pairs false
  lower-whole e = whole-within ws pairs text 63 e false (λ t. deeper-tree ws pairs) (λ s. omega arith)

  pub deepest-whole : c ≡ acceptance (whole (length ws) (type_within 64 ws pairs text)) → c ≡ Ok tt → FillsWhole ws pairs true
  deepest-whole e = whole-within ws pairs text 64 e true (λ t r. r) (λ s. impossible (cc))

  pub not-whole : {o : List ℕ} {r : Refusal} → c ≡ acceptance (whole (length ws) (type_within 64 ws pairs text)) → c ≡ Err r
      → ◌≡◌ {A = Result ℕ Refusal × List ℕ} (Err r, o) (laid_down o (whole_initialized ws pairs text))
  unfolding laid_down whole_initialized map_answer
  not-whole e d = rw (answer-refused (whole (length ws) (tree_at ws pairs 0)) (tree-accepted ws pairs text 64 e) d) refl

module _ (ws pairs : List ℕ) (text : Bytes) {o o' : List ℕ} {r : Result ℕ Refusal} where
  pub whole-filled : {deepest : Bool} → FillsWhole ws pairs deepest → Fills (map_reading (laid_init (name_bytes pairs text)) (tree_at ws pairs 0)) o o' r → (r, o') ≡ laid_down o (whole_initialized ws pairs text)
  unfolding map_reading whole_initialized map_answer whole
  whole-filled w f = rw (w.reads, eq-eqb (length ws) (length ws) refl) (f.fills (laid_init (name_bytes pairs text) w.tree) (length ws) (rw w.reads refl))

-- the tables are tested first
pub tables-tested : (ws pairs : List ℕ) (text : Bytes) → unless (check_tables ws pairs text) (whole_initialized ws pairs text) ≡ type_initialized ws pairs text
unfolding type_initialized whole_initialized tree_of
tables-tested ws pairs text = sym (map-unless (laid_init (name_bytes pairs text)) (check_tables ws pairs text) (whole (length ws) (tree_at ws pairs 0)))
