-- A pass over accepted types: what is still to be laid down, behind what was, is the whole list.
use Prim.Native.Nat.{ℕ, zero, suc, ◌+◌, ◌-◌, ◌^◌, ◌≤◌, ◌<◌}
use mathlib.Core.Path.{◌≡◌, refl, ap, sym, ◌∙◌}
use mathlib.Core.List.{List, [], ◌∷◌, ◌++◌, append-nil}
use native.Mathlib.Omega.{arith}
use lib.ListN.{length, get_or}
use Rattle.rast.specs.Bytes.{Bytes}
use Rattle.rast.specs.Tree.{Ty, Tys, TSynonym, nil, cons}
use Rattle.buffer.specs.Wrote.{Wrote}
use Rattle.buffer.proofs.Laws.{wrote_nothing, wrote_then, wrote_as, wrote_kept}
use Rattle.encoding.specs.declared.Head.{Head}
use Rattle.encoding.specs.Tables.{name_bytes, name_count}
use Rattle.encoding.specs.Reading.{got}
use Rattle.encoding.specs.Heads.{read_head}
use Rattle.encoding.specs.HeadWords.{kids, HeadHere, types_below, own_end}
use Rattle.encoding.specs.Types.{read_types, read_node, read_type, type_at}
use Rattle.encoding.proofs.Types.{Made₂, bind-got, made₂-got, node_of, type-lies}
use Rattle.encoding.proofs.TypeKinds.{type-kind}
use Rattle.encoding.proofs.Inside.{head-lies}
use Rattle.encoding.proofs.HeadWords.{words-kids, words-end}
use Rattle.tree_words.specs.Encode.{words, words_all, tokens}
use Rattle.tree_words.specs.Places.{place}
use Rattle.tree_words.proofs.Nodes.{node-below, words-cons, one-read}
use Rattle.tree_words.proofs.Renaming.{type-words, numbered}
use Rattle.tree_words.proofs.Heads.{head-here}
use Rattle.accepted_types.specs.declared.Spot.{Spot}
use Rattle.accepted_types.specs.Accepted.{Readable, EndsAt}
use Rattle.accepted_types.proofs.Accepted.{type-here, synonym-head}
use Rattle.accepted_types.proofs.Skipping.{first_of, types-fit}
use Rattle.visits.specs.Visited.{visited_from, visited_all}
use Rattle.visits.specs.Passes.{TypesDue, Visited}
use Rattle.visits.proofs.Lists.{append, types-join, positions-append, list_of, visited-join, visited-node}

-- the list of a type and of those behind it, by the types that follow its head
list-behind : (at : ℕ) (vs : Tys Bytes) (t : Ty Bytes) (us : Tys Bytes) (q : ℕ) (ts : Tys Bytes) → vs ≡ cons t us → visited_from at t ≡ place at t ∷ visited_all q ts
    → q + words_all ts ≡ at + words t → list_of at vs ≡ at ∷ list_of q (append ts us)
unfolding visited_from
list-behind at vs t us q ts g own e =
    ap (list_of at) g ∙ rw (own, visited-join ts us q, e)

-- the same of a synonym, whose display alone is visited
synonym-list : (at : ℕ) (d b : Ty Bytes) (us : Tys Bytes) (n : ℕ) {vs ts : Tys Bytes} → vs ≡ cons (TSynonym d b) us → ts ≡ cons d nil → n ≡ at + words (TSynonym d b)
    → list_of at vs ≡ (at ∷ []) ++ (list_of (at + 1) ts ++ list_of n us)
unfolding visited_from
synonym-list at d b us n g h e =
    ap (list_of at) g ∙ positions-append (visited_from at (TSynonym d b)) (visited_all (at + words (TSynonym d b)) us)
    ∙ rw (e, h, append-nil (visited_from (at + 1) d))

module _ (ws pairs : List ℕ) (text : Bytes) where
  pub types-words : (k p : ℕ) {ts : Tys Bytes} {n : ℕ} → read_types (type_at ws pairs text) k p ≡ got ts n → n ≡ p + words_all ts
  unfolding read_types words_all tokens
  types-words zero p {ts} {n} e = let z : ts ≡ nil = cc in let y : p ≡ n = cc in rw z (omega arith)
  types-words (suc k) p {ts} {n} e =
      let m = made₂-got (type_at ws pairs text p) (read_types (type_at ws pairs text) k) cons e in
      let a = type-words ws pairs text p m.reads in
      let b = types-words k m.middle m.reads₂ in
      rw m.made (omega (arith, a, b, words-cons m.left m.right))

  -- on the way over `due` types at `at`: `left` types are due at `place`. Once their list is laid down, the whole list is.
  pub record Visiting (at due : ℕ) (o : List ℕ) (pos place left : ℕ) (o' : List ℕ) (p : ℕ) : Type 0 where
    pub all : Tys Bytes
    pub rest : Tys Bytes
    pub end : ℕ
    pub reads : read_types (type_at ws pairs text) due at ≡ got all end
    pub due-reads : read_types (type_at ws pairs text) left place ≡ got rest end
    pub lays : (o'' : List ℕ) (p'' : ℕ) → Wrote o' p (list_of place rest) o'' p'' → Wrote o pos (list_of at all) o'' p''
    pub few : length ws ≤ 8192
    pub inside : place ≤ length ws
    pub counted : p ≤ place
    pub since : at ≤ place
    pub kept : length o' ≡ length o

  module _ (at due : ℕ) (o : List ℕ) (pos : ℕ) where
    -- the head at `place` is passed, and k types follow it
    pub record Stepped (place left k q : ℕ) (o' : List ℕ) (p : ℕ) : Type 0 where
      pub next : Visiting at due o pos q (left - 1 + k) o' p
      pub few : left - 1 + k ≤ length ws
      pub ahead : place < q

    -- a synonym is passed
    pub record Past (place left q : ℕ) (o' : List ℕ) (p : ℕ) : Type 0 where
      pub next : Visiting at due o pos q (left - 1) o' p
      pub ahead : place < q

  -- a synonym stands first: its display, and its base behind it
  record Synonymous (place left : ℕ) (rest : Tys Bytes) (end : ℕ) : Type 0 where
    display : Ty Bytes
    base : Ty Bytes
    others : Tys Bytes
    middle : ℕ
    next : ℕ
    made : rest ≡ cons (TSynonym display base) others
    display-reads : type_at ws pairs text (place + 1) ≡ got display middle
    base-reads : type_at ws pairs text middle ≡ got base next
    others-read : read_types (type_at ws pairs text) (left - 1) next ≡ got others end
    end-words : next ≡ place + words (TSynonym display base)

module _ {ws pairs : List ℕ} {text : Bytes} {at due : ℕ} {o : List ℕ} {pos : ℕ} where
  pub visit-start : TypesDue ws pairs text at due pos → Visiting ws pairs text at due o pos at due o pos
  visit-start d = record {
    all = d.there.value;
    rest = d.there.value;
    end = d.there.end;
    reads = d.there.reads;
    due-reads = d.there.reads;
    lays = λ o'' p'' w. w;
    few = d.few;
    inside = d.inside;
    counted = d.counted;
    since = omega arith;
    kept = refl;
  }

  module _ {place left : ℕ} {o' : List ℕ} {p : ℕ} (v : Visiting ws pairs text at due o pos place left o' p) where
    module _ (l : 0 < left) where
      -- the first type that is due
      first : Made₂ (type_at ws pairs text place) (read_types (type_at ws pairs text) (left - 1)) cons v.rest v.end
      first = first_of ws pairs text left place l v.due-reads

      pub visit-here : place < length ws
      visit-here = type-here ws pairs text place first.reads

      -- where a type is due, a head stands
      head-due : HeadHere ws place
      head-due = head-here ws pairs place (numbered ws pairs text place first.reads).reads

      synonymous : get_or ws place 0 ≡ 23 → Synonymous ws pairs text place left v.rest v.end
      unfolding read_node
      synonymous k =
          let f = first in
          let m = made₂-got (type_at ws pairs text (place + 1)) (type_at ws pairs text) TSynonym (synonym-head ws pairs text place f.reads k) in
          record {
            display = m.left;
            base = m.right;
            others = f.right;
            middle = m.middle;
            next = f.middle;
            made = f.made ∙ ap (λ (t : Ty Bytes). cons t f.right) m.made;
            display-reads = m.reads;
            base-reads = m.reads₂;
            others-read = f.reads₂;
            end-words = type-words ws pairs text place f.reads ∙ ap (λ (t : Ty Bytes). place + words t) m.made;
          }

      -- a synonym's base stands behind its display
      pub visit-base : {o'' o''' : List ℕ} {p'' : ℕ} {spot : Spot} → get_or ws place 0 ≡ 23
          → Visited ws pairs text (place + 1) 1 o'' p'' o''' spot → Readable (type_at ws pairs text spot.next)
      visit-base {spot = spot} k d =
          let s = synonymous k in
          let m : s.middle ≡ spot.next = cc (one-read (type_at ws pairs text) (place + 1) s.display-reads, d.reads) in
          record { value = s.base; end = s.next; reads = rw m at s.base-reads }

      -- its position is laid down
      module _ {o'' : List ℕ} {p'' : ℕ} (w : Wrote o' p (place ∷ []) o'' p'') where
        -- a head is passed,
        visit-step : {h : Head} {q : ℕ} → (get_or ws place 0 ≡ 23 → ⊥) → read_head (name_count pairs) ws place ≡ got h q
            → Stepped ws pairs text at due o pos place left (kids h) q o'' p''
        visit-step {h} {q} k e =
            let f = first in
            let t = f.left in
            let us = f.right in
            let b = node-below ws (name_bytes pairs text) (type_at ws pairs text) h q (node_of ws pairs text place f.reads e) in
            let ts = b.types in
            let lies = head-lies (name_count pairs) ws place e in
            let m₁ = type-words ws pairs text place f.reads in
            let m₂ = types-words ws pairs text (kids h) q b.reads in
            let own = visited-node place q b.node (λ z. k (sym (type-kind ws pairs text place f.reads) ∙ z)) (sym m₂ ∙ m₁) in
            let c : kids h + (left - 1) ≡ left - 1 + kids h = omega arith in
            let joined = rw c at (types-join (type_at ws pairs text) (kids h) (left - 1) q b.reads f.reads₂) in
            let fit = types-fit ws pairs text (left - 1 + kids h) q lies.ends (record { types = append ts us; reads = joined }) in
            record {
              next = record {
                all = v.all;
                rest = append ts us;
                end = v.end;
                reads = v.reads;
                due-reads = joined;
                lays = λ o''' p''' x. v.lays o''' p''' (wrote_as (sym (list-behind place v.rest t us q ts f.made own (sym m₂ ∙ m₁))) (wrote_then w x));
                few = v.few;
                inside = lies.ends;
                counted = omega (arith, w.next, v.counted, lies.starts);
                since = omega (arith, v.since, lies.starts);
                kept = wrote_kept w ∙ v.kept;
              };
              few = omega (arith, fit.0, fit.1);
              ahead = lies.starts;
            }

        -- whose words say what is due behind it
        pub visit-words : (get_or ws place 0 ≡ 23 → ⊥) → Stepped ws pairs text at due o pos place left (types_below ws place) (own_end ws place) o'' p''
        unfolding read_type
        visit-words k =
            let h = bind-got (read_head (name_count pairs) ws place) _ first.reads in
            rw (words-kids (name_count pairs) ws place h.first, words-end (name_count pairs) ws place h.first) (visit-step k h.first)

        -- and are what a pass over it asks for
        pub head-asked : {k : ℕ} → k ≡ get_or ws place 0 → (k ≡ 23 → ⊥) → (k ≡ get_or ws place 0) × (place < length ws) × HeadHere ws place × (0 < left) × (left - 1 + types_below ws place < 2 ^ 63)
        head-asked e o =
            let s = visit-words (λ z. o (e ∙ z)) in
            (e, visit-here, head-due, l, omega (arith, s.few, v.few))

        -- of a synonym the display is visited,
        pub visit-display : get_or ws place 0 ≡ 23 → TypesDue ws pairs text (place + 1) 1 p''
        visit-display k =
            let s = synonymous k in
            record {
              few = v.few;
              inside = omega (arith, visit-here);
              counted = omega (arith, w.next, v.counted);
              there = record { value = cons s.display nil; end = s.middle; reads = one-read (type_at ws pairs text) (place + 1) s.display-reads };
            }

        -- and what is due behind the base comes next
        pub visit-past : {o''' : List ℕ} {n : ℕ} {spot : Spot} → get_or ws place 0 ≡ 23 → Visited ws pairs text (place + 1) 1 o'' p'' o''' spot
            → EndsAt (type_at ws pairs text spot.next) n → Past ws pairs text at due o pos place left n o''' spot.pos
        visit-past {n = n} {spot = spot} k d e =
            let s = synonymous k in
            let m : s.middle ≡ spot.next = cc (one-read (type_at ws pairs text) (place + 1) s.display-reads, d.reads) in
            let ts : d.types ≡ cons s.display nil = cc (one-read (type_at ws pairs text) (place + 1) s.display-reads, d.reads) in
            let q : s.next ≡ n = cc (rw m at s.base-reads, e.reads) in
            let lies₁ = type-lies ws pairs text (place + 1) (omega (arith, visit-here)) s.display-reads in
            let lies₂ = type-lies ws pairs text s.middle lies₁.ends s.base-reads in
            record {
              next = record {
                all = v.all;
                rest = s.others;
                end = v.end;
                reads = v.reads;
                due-reads = rw q at s.others-read;
                lays = λ o'''' p'''' x. v.lays o'''' p'''' (wrote_as (sym (synonym-list place s.display s.base s.others n s.made ts (sym q ∙ s.end-words))) (wrote_then w (wrote_then d.wrote x)));
                few = v.few;
                inside = omega (arith, q, lies₂.ends);
                counted = omega (arith, d.counted, m, q, lies₂.starts);
                since = omega (arith, v.since, q, lies₁.starts, lies₂.starts);
                kept = wrote_kept d.wrote ∙ wrote_kept w ∙ v.kept;
              };
              ahead = omega (arith, q, lies₁.starts, lies₂.starts);
            }

    -- where nothing is due, all is visited
    pub visit-end : left ≡ 0 → Visited ws pairs text at due o pos o' (record { next = place; pos = p })
    unfolding read_types visited_from
    visit-end z =
        let e = rw z at v.due-reads in
        let q : place ≡ v.end = cc in
        let n : v.rest ≡ nil = cc in
        record {
          types = v.all;
          reads = v.reads ∙ ap (got v.all) (sym q);
          wrote = v.lays o' p (wrote_as (sym (ap (list_of place) n)) (wrote_nothing o' p));
          counted = v.counted;
        }

    -- what is due may be left to another pass
    pub visit-due : TypesDue ws pairs text place left p
    visit-due = record { few = v.few; inside = v.inside; counted = v.counted; there = record { value = v.rest; end = v.end; reads = v.due-reads } }

    pub visit-rest : {o'' : List ℕ} {spot : Spot} → Visited ws pairs text place left o' p o'' spot → Visited ws pairs text at due o pos o'' spot
    visit-rest {o''} {spot} d =
        let q : v.end ≡ spot.next = cc (v.due-reads, d.reads) in
        let n : d.types ≡ v.rest = cc (v.due-reads, d.reads) in
        record {
          types = v.all;
          reads = v.reads ∙ ap (got v.all) q;
          wrote = v.lays o'' spot.pos (wrote_as (ap (list_of place) n) d.wrote);
          counted = d.counted;
        }
