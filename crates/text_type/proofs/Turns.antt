-- A type up to the type that ends it, turn by turn; and a list of types, one by one.
use Rattle.std.proofs.Common.{◌≡◌, ℕ, ◌+◌, ◌-◌, ◌<◌, ◌≤◌, List, [], ◌++◌, length, sym, refl, ap, ◌∙◌, subst, append_assoc, append-nil, arith}
use Rattle.rast.specs.Bytes.{Bytes, ascii}
use Rattle.rast.specs.Tree.{Ty, Tys, nil, cons}
use Rattle.rast.specs.ToString.{Type-to_string, comma_text, after_text}
use Rattle.buffer.specs.Wrote.{Wrote}
use Rattle.buffer.proofs.Laws.{wrote_nothing, wrote_then, wrote_as, room_after, room-last}
use Rattle.encoding.specs.Reading.{Reading, got}
use Rattle.encoding.specs.Types.{read_types, type_at}
use Rattle.encoding.proofs.Tables.{impossible}
use Rattle.encoding.proofs.Types.{Made₂}
use Rattle.accepted_types.specs.declared.Spot.{Spot}
use Rattle.text_type.specs.declared.Part.{Part}
use Rattle.text_type.specs.declared.Part.TheVariants.{Rest, Done}
use Rattle.text_type.specs.Written.{Room, Written, Front, PartWritten, front, whole}
use Rattle.text_type.proofs.Laws.{room_next, written_at}
use Rattle.accepted_types.proofs.Accepted.{type-here, type-ahead}
use Rattle.accepted_types.proofs.Skipping.{none_of, first_of}

-- ---- the answers of one turn

pub part-rest : {again : ℕ → Reading (Ty Bytes)} {from : ℕ} {o o' : List ℕ} {p : ℕ} {x : Reading (Ty Bytes)} {q : Part} {s : Spot}
    → PartWritten again from o p x o' q → q ≡ Rest s → Front again from o p x o' s
part-rest {again} {from} {o} {o'} {p} {x} (front {s} h) e = subst (Front again from o p x o') (rest-same e) h
  where
    rest-same : {s t : Spot} → Rest s ≡ Rest t → s ≡ t
    rest-same e = cc
part-rest (whole h) e = impossible (cc)

pub part-done : {again : ℕ → Reading (Ty Bytes)} {from : ℕ} {o o' : List ℕ} {p : ℕ} {x : Reading (Ty Bytes)} {q : Part} {s : Spot}
    → PartWritten again from o p x o' q → q ≡ Done s → Written o p Type-to_string x o' s
part-done (front h) e = impossible (cc)
part-done {o = o} {o' = o'} {p = p} {x = x} (whole {s} h) e = subst (Written o p Type-to_string x o') (done-same e) h
  where
    done-same : {s t : Spot} → Done s ≡ Done t → s ≡ t
    done-same e = cc

-- ---- from turn to turn

-- on the way over the type at `at`: it is written up to the type at `place`
pub record Turning (ws pairs : List ℕ) (text : Bytes) (at : ℕ) (o : List ℕ) (p : ℕ) (o' : List ℕ) (place p' : ℕ) : Type 0 where
  pub room : Room o p Type-to_string (type_at ws pairs text at)
  pub front : Front (type_at ws pairs text) at o p (type_at ws pairs text at) o' (record { next = place; pos = p' })

pub turn-start : (ws pairs : List ℕ) (text : Bytes) (at : ℕ) {o : List ℕ} {p : ℕ} → Room o p Type-to_string (type_at ws pairs text at) → Turning ws pairs text at o p o at p
turn-start ws pairs text at {o} {p} r = record {
  room = r;
  front = record {
    value = r.value;
    last = r.value;
    end = r.end;
    front = [];
    reads = r.reads;
    rest = r.reads;
    ahead = omega arith;
    wrote = wrote_nothing o p;
    splits = refl;
  };
}

module _ {ws pairs : List ℕ} {text : Bytes} {at : ℕ} {o : List ℕ} {p : ℕ} {o₁ : List ℕ} {place p₁ : ℕ} (v : Turning ws pairs text at o p o₁ place p₁) where
  turn-room : p + length (Type-to_string v.front.value) ≤ length o
  turn-room =
      let e : v.room.value ≡ v.front.value = cc (v.room.reads, v.front.reads) in
      subst (λ (t : Ty Bytes). p + length (Type-to_string t) ≤ length o) e v.room.room

  pub turn-next : Room o₁ p₁ Type-to_string (type_at ws pairs text place)
  turn-next = record {
    value = v.front.last;
    end = v.front.end;
    reads = v.front.rest;
    room = room-last (Type-to_string v.front.last) turn-room v.front.wrote v.front.splits;
  }

  pub turn-here : place < length ws
  turn-here = type-here ws pairs text place v.front.rest

  pub turn-again : {o₂ : List ℕ} {s : Spot} → Front (type_at ws pairs text) (place + 1) o₁ p₁ (type_at ws pairs text place) o₂ s
      → Turning ws pairs text at o p o₂ s.next s.pos
  turn-again {s = s} g =
      let f = v.front in
      let e : f.last ≡ g.value = cc (f.rest, g.reads) in
      let n : g.end ≡ f.end = cc (f.rest, g.reads) in
      record {
        room = v.room;
        front = record {
          value = f.value;
          last = g.last;
          end = f.end;
          front = f.front ++ g.front;
          reads = f.reads;
          rest = g.rest ∙ ap (got g.last) n;
          ahead = omega (arith, f.ahead, g.ahead);
          wrote = wrote_then f.wrote g.wrote;
          splits = f.splits ∙ ap (λ (t : Ty Bytes). f.front ++ Type-to_string t) e ∙ ap (λ (x : Bytes). f.front ++ x) g.splits ∙ sym (append_assoc f.front g.front (Type-to_string g.last));
        };
      }

  pub turn_last : {o₂ : List ℕ} {s : Spot} → Written o₁ p₁ Type-to_string (type_at ws pairs text place) o₂ s → Written o p Type-to_string (type_at ws pairs text at) o₂ s
  turn_last {s = s} w =
      let a = written_at w v.front.rest in
      record {
        value = v.front.value;
        reads = v.front.reads ∙ ap (got v.front.value) (sym a.next);
        wrote = wrote_as (sym v.front.splits) (wrote_then v.front.wrote a.wrote);
      }

-- ---- lists

-- of the n types at `at`, `left` are still to be written, from `place` on
pub record ListLeft (ws pairs : List ℕ) (text : Bytes) (n at : ℕ) (o : List ℕ) (p : ℕ) (o' : List ℕ) (p' left place : ℕ) : Type 0 where
  pub all : Tys Bytes
  pub types : Tys Bytes
  pub end : ℕ
  pub front : Bytes
  pub reads : read_types (type_at ws pairs text) n at ≡ got all end
  pub rest : read_types (type_at ws pairs text) left place ≡ got types end
  pub wrote : Wrote o p front o' p'
  pub splits : comma_text all ≡ front ++ comma_text types
  pub room : p + length (comma_text all) ≤ length o
  pub some : 0 < left
  pub ahead : at ≤ place

comma-one : (t : Ty Bytes) → comma_text (cons t nil) ≡ Type-to_string t
unfolding comma_text ascii
comma-one t = append-nil (Type-to_string t)

comma-more : (t u : Ty Bytes) (us : Tys Bytes) → comma_text (cons t (cons u us)) ≡ Type-to_string t ++ (ascii ", " ++ comma_text (cons u us))
unfolding comma_text
comma-more t u us = refl

module _ (ws pairs : List ℕ) (text : Bytes) where
  some_left : (k m : ℕ) {ts : Tys Bytes} {e : ℕ} → 0 < k → read_types (type_at ws pairs text) k m ≡ got ts e → (u : Ty Bytes) × ((us : Tys Bytes) × (ts ≡ cons u us))
  some_left k m h r = let f = first_of ws pairs text k m h r in (f.left, (f.right, f.made))

pub list-start : (ws pairs : List ℕ) (text : Bytes) (n at : ℕ) {o : List ℕ} {p : ℕ} → 0 < n → Room o p comma_text (read_types (type_at ws pairs text) n at) → ListLeft ws pairs text n at o p o p n at
list-start ws pairs text n at {o} {p} h r = record {
  all = r.value;
  types = r.value;
  end = r.end;
  front = [];
  reads = r.reads;
  rest = r.reads;
  wrote = wrote_nothing o p;
  splits = refl;
  room = r.room;
  some = h;
  ahead = omega arith;
}

module _ {ws pairs : List ℕ} {text : Bytes} {n at : ℕ} {o : List ℕ} {p : ℕ} {o₁ : List ℕ} {p₁ left place : ℕ} (l : ListLeft ws pairs text n at o p o₁ p₁ left place) where
  item : Made₂ (type_at ws pairs text place) (read_types (type_at ws pairs text) (left - 1)) cons l.types l.end
  item = first_of ws pairs text left place l.some l.rest

  item-text : comma_text l.types ≡ Type-to_string item.left ++ after_text item.right
  unfolding comma_text
  item-text = ap comma_text item.made

  pub item_room : Room o₁ p₁ Type-to_string (type_at ws pairs text place)
  item_room =
      room_next (comma_text l.all) (after_text item.right) l.room l.wrote item.reads
      (l.splits ∙ ap (λ (x : Bytes). l.front ++ x) item-text)

  pub item-here : place < length ws
  item-here = type-here ws pairs text place item.reads

  module _ {o₂ : List ℕ} {s : Spot} (w : Written o₁ p₁ Type-to_string (type_at ws pairs text place) o₂ s) where
    item-written : Wrote o p (l.front ++ Type-to_string item.left) o₂ s.pos
    item-written = wrote_then l.wrote (written_at w item.reads).wrote

    pub list_done : left - 1 ≡ 0 → Written o p comma_text (read_types (type_at ws pairs text) n at) o₂ s
    list_done z =
        let none = none_of (type_at ws pairs text) (left - 1) item.middle z item.reads₂ in
        let text-all : comma_text l.all ≡ l.front ++ Type-to_string item.left = l.splits ∙ ap (λ (x : Bytes). l.front ++ x) (ap comma_text (item.made ∙ ap (cons item.left) none.0) ∙ comma-one item.left) in
        record {
          value = l.all;
          reads = l.reads ∙ ap (got l.all) (sym ((written_at w item.reads).next ∙ none.1));
          wrote = wrote_as (sym text-all) item-written;
        }

    module _ (h : 0 < left - 1) where
      more-text : comma_text l.all ≡ l.front ++ Type-to_string item.left ++ (ascii ", " ++ comma_text item.right)
      more-text =
          let m = some_left ws pairs text (left - 1) item.middle h item.reads₂ in
          let e : comma_text l.types ≡ Type-to_string item.left ++ (ascii ", " ++ comma_text item.right)
          = ap comma_text (item.made ∙ ap (cons item.left) m.1.1) ∙ comma-more item.left m.0 m.1.0 ∙ ap (λ (ts : Tys Bytes). Type-to_string item.left ++ (ascii ", " ++ comma_text ts)) (sym m.1.1) in
          l.splits ∙ ap (λ (x : Bytes). l.front ++ x) e ∙ sym (append_assoc l.front (Type-to_string item.left) (ascii ", " ++ comma_text item.right))

      pub comma-room : s.pos + length (ascii ", ") ≤ length o₂
      comma-room = room_after (ascii ", ") (comma_text item.right) l.room item-written more-text

      pub list-again : {o₃ : List ℕ} {p₃ : ℕ} → Wrote o₂ s.pos (ascii ", ") o₃ p₃ → ListLeft ws pairs text n at o p o₃ p₃ (left - 1) s.next
      list-again c =
          let b = written_at w item.reads in
          record {
            all = l.all;
            types = item.right;
            end = l.end;
            front = l.front ++ Type-to_string item.left ++ ascii ", ";
            reads = l.reads;
            rest = ap (read_types (type_at ws pairs text) (left - 1)) b.next ∙ item.reads₂;
            wrote = wrote_then item-written c;
            splits = more-text ∙ sym (append_assoc (l.front ++ Type-to_string item.left) (ascii ", ") (comma_text item.right));
            room = l.room;
            some = h;
            ahead = omega (arith, l.ahead, b.next, type-ahead ws pairs text place item.reads);
          }

-- of the n types at `at` all but `left` are written, and so is one more, to where the writer has come
pub record ListTo (ws pairs : List ℕ) (text : Bytes) (n at : ℕ) (o : List ℕ) (p : ℕ) (o' : List ℕ) (s : Spot) (left : ℕ) : Type 0 where
  pub before : List ℕ
  pub pos : ℕ
  pub place : ℕ
  pub list : ListLeft ws pairs text n at o p before pos left place
  pub item : Written before pos Type-to_string (type_at ws pairs text place) o' s

pub list_first : (ws pairs : List ℕ) (text : Bytes) (n at : ℕ) {o o' : List ℕ} {p left : ℕ} {s : Spot} → 0 < n → Room o p comma_text (read_types (type_at ws pairs text) n at)
    → Written o p Type-to_string (type_at ws pairs text at) o' s → left ≡ n → ListTo ws pairs text n at o p o' s left
list_first ws pairs text n at {o} {p = p} h r w e = rw e (record { before = o; pos = p; place = at; list = list-start ws pairs text n at h r; item = w })

module _ {ws pairs : List ℕ} {text : Bytes} {n at : ℕ} {o : List ℕ} {p : ℕ} {o₁ : List ℕ} {s : Spot} {left : ℕ} (v : ListTo ws pairs text n at o p o₁ s left) where
  pub list_end : left ≡ 1 → Written o p comma_text (read_types (type_at ws pairs text) n at) o₁ s
  list_end e = list_done v.list v.item (omega arith)

  module _ (h : 1 < left) where
    pub room-between : s.pos + length (ascii ", ") ≤ length o₁
    room-between = comma-room v.list v.item (omega arith)

    pub list_on : {o₂ : List ℕ} {p₂ : ℕ} → Wrote o₁ s.pos (ascii ", ") o₂ p₂ → ListLeft ws pairs text n at o p o₂ p₂ (left - 1) s.next
    list_on c = list-again v.list v.item (omega arith) c

    pub list_more : {o₂ o₃ : List ℕ} {p₂ left' : ℕ} {s' : Spot} → Wrote o₁ s.pos (ascii ", ") o₂ p₂ → Written o₂ p₂ Type-to_string (type_at ws pairs text s.next) o₃ s' → left' ≡ left - 1
        → ListTo ws pairs text n at o p o₃ s' left'
    list_more {o₂} {p₂ = p₂} c w e = rw e (record { before = o₂; pos = p₂; place = s.next; list = list_on c; item = w })
