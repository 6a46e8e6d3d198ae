-- An accepted type for which there is room, by the words that stand there.
use Rattle.std.proofs.Common.{◌≡◌, ℕ, ◌+◌, ◌-◌, ◌*◌, ◌%◌, ◌<◌, ◌≤◌, eqb, leb, List, [], ◌++◌, length, get_or, sym, refl, ap, ◌∙◌, arith}
use Rattle.rast.specs.Bytes.{Bytes, ascii}
use Rattle.rast.specs.Tree.{Ty, U8, Borrowed, BorrowedMut, ImplType, DynType, TMetaData}
use Rattle.rast.specs.ToString.{Path-to_string, Primitive-to_string, Type-to_string}
use Rattle.buffer.specs.Wrote.{Wrote}
use Rattle.buffer.proofs.Laws.{wrote_nothing, room_after}
use Rattle.encoding.specs.declared.Head.{Head}
use Rattle.encoding.specs.declared.Head.TheVariants.{Apply, Tuple, Function, Both, ArrayOf, Synonym}
use Rattle.encoding.specs.Tables.{name_bytes, name_count}
use Rattle.encoding.specs.Tested.{Good}
use Rattle.encoding.specs.Reading.{got, ◌>>=◌}
use Rattle.encoding.specs.Types.{primitives, path_of, read_node, type_at}
use Rattle.encoding.proofs.Types.{made_got}
use Rattle.accepted_types.specs.declared.Spot.{Spot}
use Rattle.text_type.specs.declared.Part.TheVariants.{Rest, Done}
use Rattle.accepted_types.specs.Accepted.{node_at}
use Rattle.text_type.specs.Written.{Room, Written, Front, PartWritten, front, whole}
use Rattle.text_type.proofs.Laws.{room_as, written_as, written_same, front-done}
use Rattle.accepted_types.proofs.Accepted.{NameThere, PathThere, type-here, plain_type, name-type, path-type, ref-head, mut-head, impl-head, dyn-head, both-head, synonym-head, apply-head, tuple-head, function-head, array_head, meta-head}

-- the kinds that are told apart before the last
abbrev pub Others : ℕ → Type 0
Others w = ((((((((((Unit {0} × (w ≡ 14 → ⊥)) × (w ≡ 15 → ⊥)) × (w ≡ 16 → ⊥)) × (w ≡ 17 → ⊥)) × (w ≡ 18 → ⊥)) × (w ≡ 19 → ⊥)) × (w ≡ 20 → ⊥)) × (w ≡ 21 → ⊥)) × (w ≡ 22 → ⊥)) × (w ≡ 23 → ⊥))

-- the type at `at` has room
pub record TypeRoom (ws pairs : List ℕ) (text : Bytes) (at : ℕ) (o : List ℕ) (p : ℕ) : Type 0 where
  pub there : Room o p Type-to_string (type_at ws pairs text at)

pub room_of_type : {ws pairs : List ℕ} {text : Bytes} {at : ℕ} {o : List ℕ} {p : ℕ} → Room o p Type-to_string (type_at ws pairs text at) → TypeRoom ws pairs text at o p
room_of_type h = record { there = h }

module _ {ws pairs : List ℕ} {text : Bytes} {at : ℕ} {o : List ℕ} {p : ℕ} (r : TypeRoom ws pairs text at o p) where
  pub room-here : at < length ws
  room-here = type-here ws pairs text at r.there.reads

  -- ---- no other type stands in it: it ends at q, and its text is b

  pub record Leaf (q : ℕ) (b : Bytes) : Type 0 where
    pub ends : r.there.end ≡ q
    pub prints : Type-to_string r.there.value ≡ b

  pub plain-leaf : get_or ws at 0 < 12 → Leaf (at + 1) (Primitive-to_string (get_or primitives (get_or ws at 0) U8))
  unfolding Type-to_string
  plain-leaf h = let k = plain_type ws pairs text at r.there.reads h in record { ends = k.1; prints = ap Type-to_string k.0 }

  pub name-there : get_or ws at 0 ≡ 12 → NameThere ws pairs text at r.there.reads
  name-there h = name-type ws pairs text at r.there.reads h

  pub name-leaf : get_or ws at 0 ≡ 12 → Leaf (at + 2) (name_bytes pairs text (get_or ws (at + 1) 0))
  unfolding Type-to_string
  name-leaf h = record { ends = (name-there h).end; prints = ap Type-to_string (name-there h).type }

  -- what is no name and no plain type is a path
  abbrev pub PathIn : Type 0
  PathIn = PathThere ws pairs text at r.there.reads

  pub path-in : get_or ws at 0 ≡ 13 → PathIn
  path-in e = path-type ws pairs text at r.there.reads e

  pub path-leaf : PathIn → Leaf (at + 3 + get_or ws (at + 2) 0) (Path-to_string (path_of ws (name_bytes pairs text) (record { root = get_or ws (at + 1) 0; start = at + 3; count = get_or ws (at + 2) 0 })))
  unfolding Type-to_string
  path-leaf k = record { ends = k.end; prints = ap Type-to_string k.type }

  -- ---- it is a few bytes and then the type at q

  pub record Prefix (before : Bytes) (q : ℕ) : Type 0 where
    pub inside : q ≤ length ws
    pub ahead : at + 1 ≤ q
    pub last : Ty Bytes
    pub rest : type_at ws pairs text q ≡ got last r.there.end
    pub splits : Type-to_string r.there.value ≡ before ++ Type-to_string last

  prefix : (before : Bytes) (c : Ty Bytes → Ty Bytes) {q : ℕ} → ((t : Ty Bytes) → Type-to_string (c t) ≡ before ++ Type-to_string t)
      → (type_at ws pairs text q >>= λ t m. got (c t) m) ≡ got r.there.value r.there.end → at + 1 ≤ q → q ≤ length ws → Prefix before q
  prefix before c {q} prints e a i =
      let m = made_got (type_at ws pairs text q) c e in
      record { inside = i; ahead = a; last = m.value; rest = m.reads; splits = ap Type-to_string m.made ∙ prints m.value }

  -- of a kind without own words
  next-prefix : (before : Bytes) (c : Ty Bytes → Ty Bytes) → ((t : Ty Bytes) → Type-to_string (c t) ≡ before ++ Type-to_string t)
      → (type_at ws pairs text (at + 1) >>= λ t m. got (c t) m) ≡ got r.there.value r.there.end → Prefix before (at + 1)
  next-prefix before c prints e = prefix before c prints e (omega arith) (omega (arith, room-here))

  pub ref-prefix : get_or ws at 0 ≡ 15 → Prefix (ascii "&") (at + 1)
  unfolding read_node Type-to_string
  ref-prefix k = next-prefix (ascii "&") Borrowed (λ t. refl) (ref-head ws pairs text at r.there.reads k)

  pub mut-prefix : get_or ws at 0 ≡ 16 → Prefix (ascii "&mut ") (at + 1)
  unfolding read_node Type-to_string
  mut-prefix k = next-prefix (ascii "&mut ") BorrowedMut (λ t. refl) (mut-head ws pairs text at r.there.reads k)

  pub impl-prefix : get_or ws at 0 ≡ 17 → Prefix (ascii "impl ") (at + 1)
  unfolding read_node Type-to_string
  impl-prefix k = next-prefix (ascii "impl ") ImplType (λ t. refl) (impl-head ws pairs text at r.there.reads k)

  pub dyn-prefix : get_or ws at 0 ≡ 18 → Prefix (ascii "dyn ") (at + 1)
  unfolding read_node Type-to_string
  dyn-prefix k = next-prefix (ascii "dyn ") DynType (λ t. refl) (dyn-head ws pairs text at r.there.reads k)

  pub meta-prefix : 14 ≤ get_or ws at 0 → Others (get_or ws at 0) → Prefix [] (at + 2)
  unfolding read_node Type-to_string
  meta-prefix h z =
      let m = meta-head ws pairs text at r.there.reads h z.0.0.0.0.0.0.0.0.0.1 z.0.0.0.0.0.0.0.0.1 z.0.0.0.0.0.0.0.1 z.0.0.0.0.0.0.1 z.0.0.0.0.0.1 z.0.0.0.0.1 z.0.0.0.1 z.0.0.1 z.0.1 z.1 in
      prefix [] (λ t. TMetaData t (eqb (get_or ws (at + 1) 0 % 2) 1) (leb 2 (get_or ws (at + 1) 0))) (λ t. refl) m.2 (omega arith) (omega (arith, m.0))

  -- ---- it holds other types: its head h, with own words up to q

  pub record Node (h : Head) (q : ℕ) : Type 0 where
    pub inside : q ≤ length ws
    pub ahead : at + 1 ≤ q
    pub reads : node_at ws pairs text h q ≡ got r.there.value r.there.end

  -- a head with one own word
  abbrev pub WordNode : (ℕ → Head) → Type 0
  WordNode f = Node (f (get_or ws (at + 1) 0)) (at + 2)

  no_word : (h : Head) → node_at ws pairs text h (at + 1) ≡ got r.there.value r.there.end → Node h (at + 1)
  no_word h e = record { inside = omega (arith, room-here); ahead = omega arith; reads = e }

  one_word : (f : ℕ → Head) → (at + 1 < length ws) × (node_at ws pairs text (f (get_or ws (at + 1) 0)) (at + 2) ≡ got r.there.value r.there.end) → WordNode f
  one_word f h = record { inside = omega (arith, h.0); ahead = omega arith; reads = h.1 }

  pub apply-node : get_or ws at 0 ≡ 14 → WordNode Apply
  apply-node k = one_word Apply (apply-head ws pairs text at r.there.reads k)

  pub tuple-node : get_or ws at 0 ≡ 19 → WordNode Tuple
  tuple-node k = one_word Tuple (tuple-head ws pairs text at r.there.reads k)

  pub function-node : get_or ws at 0 ≡ 20 → WordNode Function
  function-node k = one_word Function (function-head ws pairs text at r.there.reads k)

  pub both-node : get_or ws at 0 ≡ 21 → Node Both (at + 1)
  both-node k = no_word Both (both-head ws pairs text at r.there.reads k)

  pub array-node : get_or ws at 0 ≡ 22 → WordNode ArrayOf
  array-node k = let h = array_head ws pairs text at r.there.reads k in one_word ArrayOf (h.0, h.2)

  pub array_size : get_or ws at 0 ≡ 22 → get_or ws (at + 1) 0 < name_count pairs + 1
  array_size k = (array_head ws pairs text at r.there.reads k).1

  pub synonym-node : get_or ws at 0 ≡ 23 → Node Synonym (at + 1)
  synonym-node k = no_word Synonym (synonym-head ws pairs text at r.there.reads k)

module _ {ws pairs : List ℕ} {text : Bytes} {at : ℕ} {o : List ℕ} {p : ℕ} {r : TypeRoom ws pairs text at o p} where
  module _ {q : ℕ} {b : Bytes} (l : Leaf r q b) where
    pub leaf_room : p + length b ≤ length o
    leaf_room = room_as r.there b l.prints

    pub leaf-done : {o' : List ℕ} {p' : ℕ} → Wrote o p b o' p' → Written o p Type-to_string (type_at ws pairs text at) o' (record { next = q; pos = p' })
    leaf-done {p' = p'} w = written_as r.there q p' l.ends b l.prints w

  module _ {before : Bytes} {q : ℕ} (f : Prefix r before q) where
    pub prefix-room : p + length before ≤ length o
    prefix-room = room_after before (Type-to_string f.last) r.there.room (wrote_nothing o p) f.splits

    pub prefix-done : {o' : List ℕ} {p' : ℕ} → Wrote o p before o' p'
        → PartWritten (type_at ws pairs text) (at + 1) o p (type_at ws pairs text at) o' (Rest (record { next = q; pos = p' }))
    prefix-done w = front (front-done r.there f.rest f.ahead f.splits w)

  module _ {h : Head} {q : ℕ} (d : Node r h q) where
    pub node-room : Room o p Type-to_string (node_at ws pairs text h q)
    node-room = record { value = r.there.value; end = r.there.end; reads = d.reads; room = r.there.room }

    -- the cycle's measure, from the type to its node
    pub node-falls : {t : ℕ} → 5 * (length ws - at) + 0 ≡ t → 5 * (length ws - q) + 4 < t
    node-falls e = omega (arith, d.inside, d.ahead)

    -- what the writer of the node asks, where the type's was asked
    pub node-asked : {t : ℕ} → (5 * (length ws - at) + 0 ≡ t) × (Good pairs text × Room o p Type-to_string (type_at ws pairs text at))
        → (5 * (length ws - q) + 4 < t) × (Good pairs text × Room o p Type-to_string (node_at ws pairs text h q))
    node-asked a = (node-falls a.0, (a.1.0, node-room))

    -- what is written of the head is written of the type
    module _ {o' : List ℕ} {s : Spot} where
      pub node-whole : Written o p Type-to_string (node_at ws pairs text h q) o' s → PartWritten (type_at ws pairs text) (at + 1) o p (type_at ws pairs text at) o' (Done s)
      node-whole w = whole (written_same (d.reads ∙ sym r.there.reads) w)

      pub node-front : Front (type_at ws pairs text) q o p (node_at ws pairs text h q) o' s → PartWritten (type_at ws pairs text) (at + 1) o p (type_at ws pairs text at) o' (Rest s)
      node-front f = front (record {
        value = f.value;
        last = f.last;
        end = f.end;
        front = f.front;
        reads = r.there.reads ∙ sym d.reads ∙ f.reads;
        rest = f.rest;
        ahead = omega (arith, d.ahead, f.ahead);
        wrote = f.wrote;
        splits = f.splits;
      })

-- what the writers of a name and of a plain type ask
module _ {ws pairs : List ℕ} {text : Bytes} {at : ℕ} {o : List ℕ} {p : ℕ} (r : TypeRoom ws pairs text at o p) where
  pub name-asked : get_or ws at 0 ≡ 12 → Good pairs text
      → (get_or ws (at + 1) 0 < name_count pairs) × Good pairs text × (p + length (name_bytes pairs text (get_or ws (at + 1) 0)) ≤ length o)
  name-asked k g = ((name-there r k).below, g, leaf_room (name-leaf r k))

  pub plain-asked : get_or ws at 0 < 12 → (get_or ws at 0 < 12) × (p + length (Primitive-to_string (get_or primitives (get_or ws at 0) U8)) ≤ length o)
  plain-asked k = (k, leaf_room (plain-leaf r k))
