-- Each kind of type that holds others, part by part: the room for each part, and what is written in the end.
use Rattle.std.proofs.Common.{◌≡◌, ℕ, zero, suc, ◌+◌, ◌<◌, ◌≤◌, List, [], ◌++◌, length, sym, refl, ap, ◌∙◌, subst, append_assoc, append-nil, arith}
use native.Mathlib.Decide.{ℕ_discrete}
use Rattle.rast.specs.Bytes.{Bytes, ascii}
use Rattle.rast.specs.Tree.{Ty, Tys, TypeApp, TupleType, FnType, IntersectionType, Array, TSynonym, cons}
use Rattle.rast.specs.ToString.{Type-to_string, arguments_text, comma_text, after_text}
use Rattle.buffer.specs.Wrote.{Wrote}
use Rattle.buffer.proofs.Laws.{wrote_nothing, wrote_then, room_after}
use Rattle.encoding.specs.declared.Head.{Head}
use Rattle.encoding.specs.declared.Head.TheVariants.{Apply, Tuple, Function, Both, ArrayOf, Synonym}
use Rattle.encoding.specs.Tables.{name_bytes}
use Rattle.encoding.specs.Reading.{Reading, got}
use Rattle.encoding.specs.Types.{size_of, read_types, read_node, type_at}
use Rattle.encoding.proofs.Types.{Made, Made₂, made_got, made₂-got}
use Rattle.accepted_types.specs.declared.Spot.{Spot}
use Rattle.text_leaf.specs.Texts.{end_text}
use Rattle.accepted_types.specs.Accepted.{Readable, EndsAt, node_at}
use Rattle.text_type.specs.Written.{Room, Written, Front}
use Rattle.text_type.proofs.Laws.{room-first, written_at, done, room-between, wrote-between, close-room, close-done, front-done}
use Rattle.accepted_types.proofs.Accepted.{type-here, type-ahead}
use Rattle.accepted_types.proofs.Skipping.{types-fit, none_of, first_of}

-- the texts of lists
arguments-none : (f : ℕ → Reading (Ty Bytes)) (n m : ℕ) {ts : Tys Bytes} {e : ℕ} → n ≡ 0 → read_types f n m ≡ got ts e → (arguments_text ts ≡ []) × (comma_text ts ≡ []) × (m ≡ e)
unfolding arguments_text comma_text ascii
arguments-none f n m z r = let t = none_of f n m z r in (ap arguments_text t.0, ap comma_text t.0, t.1)

some-arguments : (t : Ty Bytes) (ts : Tys Bytes) → arguments_text (cons t ts) ≡ ascii "<" ++ (comma_text (cons t ts) ++ ascii ">")
unfolding arguments_text comma_text
some-arguments t ts = append_assoc (ascii "<") (Type-to_string t ++ after_text ts) (ascii ">")

arguments-some : (f : ℕ → Reading (Ty Bytes)) (n m : ℕ) {ts : Tys Bytes} {e : ℕ} → (n ≡ 0 → ⊥) → read_types f n m ≡ got ts e → arguments_text ts ≡ ascii "<" ++ (comma_text ts ++ ascii ">")
unfolding read_types
arguments-some f zero m z r = absurd (z refl)
arguments-some f (suc n) m {ts} z r =
    let c = made₂-got (f m) (read_types f n) cons r in
    rw c.made (some-arguments c.left c.right)

-- the type of a head has room
pub record NodeRoom (ws pairs : List ℕ) (text : Bytes) (h : Head) (at : ℕ) (o : List ℕ) (p : ℕ) : Type 0 where
  pub there : Room o p Type-to_string (node_at ws pairs text h at)

pub room_of_node : {ws pairs : List ℕ} {text : Bytes} {h : Head} {at : ℕ} {o : List ℕ} {p : ℕ} → Room o p Type-to_string (node_at ws pairs text h at) → NodeRoom ws pairs text h at o p
room_of_node r = record { there = r }

module _ {ws pairs : List ℕ} {text : Bytes} {o : List ℕ} {p : ℕ} where
  -- ---- a type application

  module _ {n at : ℕ} (r : NodeRoom ws pairs text (Apply n) at o p) where
    apply-parts : Made₂ (type_at ws pairs text at) (read_types (type_at ws pairs text) n) TypeApp r.there.value r.there.end
    unfolding read_node
    apply-parts = made₂-got (type_at ws pairs text at) (read_types (type_at ws pairs text) n) TypeApp r.there.reads

    apply-text : Type-to_string r.there.value ≡ Type-to_string apply-parts.left ++ arguments_text apply-parts.right
    unfolding Type-to_string
    apply-text = ap Type-to_string apply-parts.made

    pub apply-base : Room o p Type-to_string (type_at ws pairs text at)
    apply-base = room-first (Type-to_string r.there.value) (arguments_text apply-parts.right) r.there.room apply-parts.reads apply-text

    module _ {o₁ : List ℕ} {s : Spot} (base : Written o p Type-to_string (type_at ws pairs text at) o₁ s) where
      pub apply-none : n ≡ 0 → Written o p Type-to_string (node_at ws pairs text (Apply n) at) o₁ s
      apply-none z =
          let b = written_at base apply-parts.reads in
          let e = arguments-none (type_at ws pairs text) n apply-parts.middle z apply-parts.reads₂ in
          done r.there (b.next ∙ e.2) (apply-text ∙ ap (λ (x : Bytes). Type-to_string apply-parts.left ++ x) e.0 ∙ append-nil _) b.wrote

      pub apply-later : at < s.next
      apply-later = type-ahead ws pairs text at base.reads

      module _ (z : n ≡ 0 → ⊥) where
        apply-whole : Type-to_string r.there.value ≡ Type-to_string apply-parts.left ++ (ascii "<" ++ (comma_text apply-parts.right ++ ascii ">"))
        apply-whole = apply-text ∙ ap (λ (x : Bytes). Type-to_string apply-parts.left ++ x) (arguments-some (type_at ws pairs text) n apply-parts.middle z apply-parts.reads₂)

        pub apply-open : s.pos + length (ascii "<") ≤ length o₁
        apply-open = room_after (ascii "<") (comma_text apply-parts.right ++ ascii ">") r.there.room (written_at base apply-parts.reads).wrote apply-whole

        module _ {o₂ : List ℕ} {p₂ : ℕ} (angle : Wrote o₁ s.pos (ascii "<") o₂ p₂) where
          apply-front : Wrote o p (Type-to_string apply-parts.left ++ ascii "<") o₂ p₂
          apply-front = wrote_then (written_at base apply-parts.reads).wrote angle

          apply-list-reads : read_types (type_at ws pairs text) n s.next ≡ got apply-parts.right r.there.end
          apply-list-reads = ap (read_types (type_at ws pairs text) n) (written_at base apply-parts.reads).next ∙ apply-parts.reads₂

          apply-splits : Type-to_string r.there.value ≡ Type-to_string apply-parts.left ++ ascii "<" ++ (comma_text apply-parts.right ++ ascii ">")
          apply-splits = apply-whole ∙ sym (append_assoc (Type-to_string apply-parts.left) (ascii "<") (comma_text apply-parts.right ++ ascii ">"))

          pub apply-list : Room o₂ p₂ comma_text (read_types (type_at ws pairs text) n s.next)
          apply-list = room-between r.there apply-list-reads (Type-to_string apply-parts.left ++ ascii "<") (ascii ">") apply-splits apply-front

          module _ {o₃ : List ℕ} {s₃ : Spot} (list : Written o₂ p₂ comma_text (read_types (type_at ws pairs text) n s.next) o₃ s₃) where
            pub apply-close : s₃.pos + length (ascii ">") ≤ length o₃
            apply-close = close-room r.there apply-list-reads (Type-to_string apply-parts.left ++ ascii "<") (ascii ">") apply-splits apply-front list

            pub apply-done : {o₄ : List ℕ} {p₄ : ℕ} → Wrote o₃ s₃.pos (ascii ">") o₄ p₄
                → Written o p Type-to_string (node_at ws pairs text (Apply n) at) o₄ (record { next = s₃.next; pos = p₄ })
            apply-done w = close-done r.there apply-list-reads (Type-to_string apply-parts.left ++ ascii "<") (ascii ">") apply-splits apply-front list refl w

  -- ---- a tuple

  module _ {n at : ℕ} (r : NodeRoom ws pairs text (Tuple n) at o p) where
    tuple-parts : Made (read_types (type_at ws pairs text) n at) TupleType r.there.value r.there.end
    unfolding read_node
    tuple-parts = made_got (read_types (type_at ws pairs text) n at) TupleType r.there.reads

    tuple-text : Type-to_string r.there.value ≡ ascii "(" ++ (comma_text tuple-parts.value ++ ascii ")")
    unfolding Type-to_string
    tuple-text = ap Type-to_string tuple-parts.made ∙ append_assoc (ascii "(") (comma_text tuple-parts.value) (ascii ")")

    empty-text : n ≡ 0 → Type-to_string r.there.value ≡ ascii "()"
    unfolding ascii
    empty-text z = tuple-text ∙ ap (λ (x : Bytes). ascii "(" ++ (x ++ ascii ")")) (arguments-none (type_at ws pairs text) n at z tuple-parts.reads).1

    pub tuple-empty : n ≡ 0 → p + length (ascii "()") ≤ length o
    tuple-empty z = subst (λ (x : Bytes). p + length x ≤ length o) (empty-text z) r.there.room

    pub tuple-none : n ≡ 0 → {o₁ : List ℕ} {p₁ : ℕ} → Wrote o p (ascii "()") o₁ p₁
        → Written o p Type-to_string (node_at ws pairs text (Tuple n) at) o₁ (record { next = at; pos = p₁ })
    tuple-none z w = done r.there (arguments-none (type_at ws pairs text) n at z tuple-parts.reads).2 (empty-text z) w

    pub tuple-open : p + length (ascii "(") ≤ length o
    tuple-open = room_after (ascii "(") (comma_text tuple-parts.value ++ ascii ")") r.there.room (wrote_nothing o p) tuple-text

    module _ {o₁ : List ℕ} {p₁ : ℕ} (paren : Wrote o p (ascii "(") o₁ p₁) where
      pub tuple-list : Room o₁ p₁ comma_text (read_types (type_at ws pairs text) n at)
      tuple-list = room-between r.there tuple-parts.reads (ascii "(") (ascii ")") tuple-text paren

      module _ {o₂ : List ℕ} {s : Spot} (list : Written o₁ p₁ comma_text (read_types (type_at ws pairs text) n at) o₂ s) where
        pub tuple-close : s.pos + length (ascii ")") ≤ length o₂
        tuple-close = close-room r.there tuple-parts.reads (ascii "(") (ascii ")") tuple-text paren list

        pub tuple-done : {o₃ : List ℕ} {p₃ : ℕ} → Wrote o₂ s.pos (ascii ")") o₃ p₃
            → Written o p Type-to_string (node_at ws pairs text (Tuple n) at) o₃ (record { next = s.next; pos = p₃ })
        tuple-done w = close-done r.there tuple-parts.reads (ascii "(") (ascii ")") tuple-text paren list refl w

  -- ---- a function type, up to its return type

  module _ {n at : ℕ} (r : NodeRoom ws pairs text (Function n) at o p) where
    inputs-parts : Made₂ (read_types (type_at ws pairs text) n at) (type_at ws pairs text) FnType r.there.value r.there.end
    unfolding read_node
    inputs-parts = made₂-got (read_types (type_at ws pairs text) n at) (type_at ws pairs text) FnType r.there.reads

    inputs-within : at ≤ length ws
    inputs-within = go (ℕ_discrete n 0)
      where
        go : Dec (n ≡ 0) → at ≤ length ws
        go (yes z) = omega (arith, (arguments-none (type_at ws pairs text) n at z inputs-parts.reads).2, type-here ws pairs text inputs-parts.middle inputs-parts.reads₂)
        go (no z) = omega (arith, type-here ws pairs text at (first_of ws pairs text n at (omega arith) inputs-parts.reads).reads)

    inputs-text : Type-to_string r.there.value ≡ ascii "::std::ops::Fn(" ++ (comma_text inputs-parts.left ++ (ascii ") -> " ++ Type-to_string inputs-parts.right))
    unfolding Type-to_string
    inputs-text = ap Type-to_string inputs-parts.made ∙ simp append_assoc

    pub inputs-open : p + length (ascii "::std::ops::Fn(") ≤ length o
    inputs-open = room_after (ascii "::std::ops::Fn(") (comma_text inputs-parts.left ++ (ascii ") -> " ++ Type-to_string inputs-parts.right)) r.there.room (wrote_nothing o p) inputs-text

    module _ {o₁ : List ℕ} {p₁ : ℕ} (fn : Wrote o p (ascii "::std::ops::Fn(") o₁ p₁) where
      inputs-none-text : n ≡ 0 → Type-to_string r.there.value ≡ ascii "::std::ops::Fn(" ++ (ascii ") -> " ++ Type-to_string inputs-parts.right)
      inputs-none-text z = inputs-text ∙ ap (λ (x : Bytes). ascii "::std::ops::Fn(" ++ (x ++ (ascii ") -> " ++ Type-to_string inputs-parts.right))) (arguments-none (type_at ws pairs text) n at z inputs-parts.reads).1

      pub inputs-none-arrow : n ≡ 0 → p₁ + length (ascii ") -> ") ≤ length o₁
      inputs-none-arrow z = room_after (ascii ") -> ") (Type-to_string inputs-parts.right) r.there.room fn (inputs-none-text z)

      pub inputs-none : n ≡ 0 → {o₂ : List ℕ} {p₂ : ℕ} → Wrote o₁ p₁ (ascii ") -> ") o₂ p₂
          → Front (type_at ws pairs text) at o p (node_at ws pairs text (Function n) at) o₂ (record { next = at; pos = p₂ })
      inputs-none z w =
          front-done r.there (ap (type_at ws pairs text) (arguments-none (type_at ws pairs text) n at z inputs-parts.reads).2 ∙ inputs-parts.reads₂) (omega arith)
          (inputs-none-text z ∙ sym (append_assoc (ascii "::std::ops::Fn(") (ascii ") -> ") (Type-to_string inputs-parts.right))) (wrote_then fn w)

      pub inputs-list : Room o₁ p₁ comma_text (read_types (type_at ws pairs text) n at)
      inputs-list = room-between r.there inputs-parts.reads (ascii "::std::ops::Fn(") (ascii ") -> " ++ Type-to_string inputs-parts.right) inputs-text fn

      module _ {o₂ : List ℕ} {s : Spot} (list : Written o₁ p₁ comma_text (read_types (type_at ws pairs text) n at) o₂ s) where
        inputs-written : Wrote o p (ascii "::std::ops::Fn(" ++ comma_text inputs-parts.left) o₂ s.pos
        inputs-written = wrote-between r.there inputs-parts.reads (ascii "::std::ops::Fn(") (ascii ") -> " ++ Type-to_string inputs-parts.right) inputs-text fn list

        pub inputs-arrow : s.pos + length (ascii ") -> ") ≤ length o₂
        inputs-arrow =
            room_after (ascii ") -> ") (Type-to_string inputs-parts.right) r.there.room inputs-written
            (inputs-text ∙ sym (append_assoc (ascii "::std::ops::Fn(") (comma_text inputs-parts.left) (ascii ") -> " ++ Type-to_string inputs-parts.right)))

        pub inputs-done : {o₃ : List ℕ} {p₃ : ℕ} → Wrote o₂ s.pos (ascii ") -> ") o₃ p₃
            → Front (type_at ws pairs text) at o p (node_at ws pairs text (Function n) at) o₃ (record { next = s.next; pos = p₃ })
        inputs-done w =
            let b = written_at list inputs-parts.reads in
            let l = types-fit ws pairs text n at inputs-within (record { types = inputs-parts.left; reads = inputs-parts.reads }) in
            front-done r.there (ap (type_at ws pairs text) b.next ∙ inputs-parts.reads₂) (omega (arith, b.next, l.0)) (inputs-text ∙ simp append_assoc) (wrote_then inputs-written w)

  -- ---- an intersection, up to its right side

  module _ {at : ℕ} (r : NodeRoom ws pairs text Both at o p) where
    left-parts : Made₂ (type_at ws pairs text at) (type_at ws pairs text) IntersectionType r.there.value r.there.end
    unfolding read_node
    left-parts = made₂-got (type_at ws pairs text at) (type_at ws pairs text) IntersectionType r.there.reads

    left-text : Type-to_string r.there.value ≡ Type-to_string left-parts.left ++ (ascii " + " ++ Type-to_string left-parts.right)
    unfolding Type-to_string
    left-text = ap Type-to_string left-parts.made ∙ append_assoc (Type-to_string left-parts.left) (ascii " + ") (Type-to_string left-parts.right)

    pub left-type : Room o p Type-to_string (type_at ws pairs text at)
    left-type = room-first (Type-to_string r.there.value) (ascii " + " ++ Type-to_string left-parts.right) r.there.room left-parts.reads left-text

    module _ {o₁ : List ℕ} {s : Spot} (left : Written o p Type-to_string (type_at ws pairs text at) o₁ s) where
      pub left-plus : s.pos + length (ascii " + ") ≤ length o₁
      left-plus = room_after (ascii " + ") (Type-to_string left-parts.right) r.there.room (written_at left left-parts.reads).wrote left-text

      pub left-done : {o₂ : List ℕ} {p₂ : ℕ} → Wrote o₁ s.pos (ascii " + ") o₂ p₂
          → Front (type_at ws pairs text) at o p (node_at ws pairs text Both at) o₂ (record { next = s.next; pos = p₂ })
      left-done w =
          let b = written_at left left-parts.reads in
          front-done r.there (ap (type_at ws pairs text) b.next ∙ left-parts.reads₂) (omega (arith, b.next, type-ahead ws pairs text at left-parts.reads))
          (left-text ∙ sym (append_assoc (Type-to_string left-parts.left) (ascii " + ") (Type-to_string left-parts.right))) (wrote_then b.wrote w)

  -- ---- an array

  module _ {size at : ℕ} (r : NodeRoom ws pairs text (ArrayOf size) at o p) where
    array_parts : Made (type_at ws pairs text at) (λ t. Array t (size_of (name_bytes pairs text) size)) r.there.value r.there.end
    unfolding read_node
    array_parts = made_got (type_at ws pairs text at) (λ t. Array t (size_of (name_bytes pairs text) size)) r.there.reads

    array-text : Type-to_string r.there.value ≡ ascii "[" ++ (Type-to_string array_parts.value ++ end_text (size_of (name_bytes pairs text) size))
    unfolding Type-to_string
    array-text = ap Type-to_string array_parts.made ∙ simp append_assoc

    pub array-open : p + length (ascii "[") ≤ length o
    array-open = room_after (ascii "[") (Type-to_string array_parts.value ++ end_text (size_of (name_bytes pairs text) size)) r.there.room (wrote_nothing o p) array-text

    module _ {o₁ : List ℕ} {p₁ : ℕ} (bracket : Wrote o p (ascii "[") o₁ p₁) where
      pub array-element : Room o₁ p₁ Type-to_string (type_at ws pairs text at)
      array-element = room-between r.there array_parts.reads (ascii "[") (end_text (size_of (name_bytes pairs text) size)) array-text bracket

      module _ {o₂ : List ℕ} {s : Spot} (element : Written o₁ p₁ Type-to_string (type_at ws pairs text at) o₂ s) where
        pub array-end : s.pos + length (end_text (size_of (name_bytes pairs text) size)) ≤ length o₂
        array-end = close-room r.there array_parts.reads (ascii "[") (end_text (size_of (name_bytes pairs text) size)) array-text bracket element

        pub array-done : {o₃ : List ℕ} {p₃ : ℕ} → Wrote o₂ s.pos (end_text (size_of (name_bytes pairs text) size)) o₃ p₃
            → Written o p Type-to_string (node_at ws pairs text (ArrayOf size) at) o₃ (record { next = s.next; pos = p₃ })
        array-done w = close-done r.there array_parts.reads (ascii "[") (end_text (size_of (name_bytes pairs text) size)) array-text bracket element refl w

  -- ---- a synonym

  module _ {at : ℕ} (r : NodeRoom ws pairs text Synonym at o p) where
    synonym-parts : Made₂ (type_at ws pairs text at) (type_at ws pairs text) TSynonym r.there.value r.there.end
    unfolding read_node
    synonym-parts = made₂-got (type_at ws pairs text at) (type_at ws pairs text) TSynonym r.there.reads

    synonym-text : Type-to_string r.there.value ≡ Type-to_string synonym-parts.left
    unfolding Type-to_string
    synonym-text = ap Type-to_string synonym-parts.made

    pub synonym-display : Room o p Type-to_string (type_at ws pairs text at)
    synonym-display = record {
      value = synonym-parts.left;
      end = synonym-parts.middle;
      reads = synonym-parts.reads;
      room = subst (λ (x : Bytes). p + length x ≤ length o) synonym-text r.there.room;
    }

    module _ {o₁ : List ℕ} {s : Spot} (display : Written o p Type-to_string (type_at ws pairs text at) o₁ s) where
      synonym-base-reads : type_at ws pairs text s.next ≡ got synonym-parts.right r.there.end
      synonym-base-reads = ap (type_at ws pairs text) (written_at display synonym-parts.reads).next ∙ synonym-parts.reads₂

      pub synonym-base : Readable (type_at ws pairs text s.next)
      synonym-base = record { value = synonym-parts.right; end = r.there.end; reads = synonym-base-reads }

      pub synonym-done : {n : ℕ} → EndsAt (type_at ws pairs text s.next) n
          → Written o p Type-to_string (node_at ws pairs text Synonym at) o₁ (record { next = n; pos = s.pos })
      synonym-done {n} e =
          let end : n ≡ r.there.end = cc (e.reads, synonym-base-reads) in
          done r.there end synonym-text (written_at display synonym-parts.reads).wrote
