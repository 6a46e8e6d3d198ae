-- Laws of what is written of an accepted type, part by part.
use Rattle.std.proofs.Common.{◌≡◌, ℕ, ◌+◌, ◌≤◌, List, ◌++◌, length, sym, ap, ◌∙◌, subst, append_assoc, arith, length-append}
use Rattle.rast.specs.Bytes.{Bytes}
use Rattle.rast.specs.Tree.{Ty}
use Rattle.rast.specs.ToString.{Type-to_string}
use Rattle.buffer.specs.Wrote.{Wrote}
use Rattle.buffer.proofs.Laws.{wrote_then, wrote_as, room_after, room-last}
use Rattle.encoding.specs.Reading.{Reading, got}
use Rattle.accepted_types.specs.declared.Spot.{Spot}
use Rattle.text_type.specs.Written.{Room, Written, Front}

-- the room for a text, said in another way
pub room_as : {A : Type 0} {o : List ℕ} {p : ℕ} {text : A → Bytes} {x : Reading A} (r : Room o p text x) (b : Bytes) → text r.value ≡ b → p + length b ≤ length o
room_as {o = o} {p = p} r b e = subst (λ (l : List ℕ). p + length l ≤ length o) e r.room

-- a text that is written, said in another way
pub written_as : {A : Type 0} {o o' : List ℕ} {p : ℕ} {text : A → Bytes} {x : Reading A} (r : Room o p text x) (next pos : ℕ) → r.end ≡ next
    → (b : Bytes) → text r.value ≡ b → Wrote o p b o' pos → Written o p text x o' (record { next = next; pos = pos })
written_as {x = x} r next pos e b d w = record {
  value = r.value;
  reads = r.reads ∙ ap (got r.value) e;
  wrote = wrote_as (sym d) w;
}

-- what was written of one reading, of another that gives the same
pub written_same : {A : Type 0} {o o' : List ℕ} {p : ℕ} {text : A → Bytes} {x y : Reading A} {s : Spot} → x ≡ y → Written o p text x o' s → Written o p text y o' s
written_same e w = record { value = w.value; reads = sym e ∙ w.reads; wrote = w.wrote }

-- a first part has room where the whole has
pub room-first : {A : Type 0} {o : List ℕ} {p : ℕ} {text : A → Bytes} {x : Reading A} {a : A} {m : ℕ} (whole rest : Bytes)
    → p + length whole ≤ length o → x ≡ got a m → whole ≡ text a ++ rest → Room o p text x
room-first {o = o} {p = p} {text = text} {a = a} {m = m} whole rest room e d =
    let l : length whole ≡ length (text a) + length rest = ap length d ∙ length-append (text a) rest in
    record { value = a; end = m; reads = e; room = omega arith }

-- a later part has room behind what is written
pub room_next : {A : Type 0} {o o' : List ℕ} {p p' : ℕ} {text : A → Bytes} {x : Reading A} {a : A} {m : ℕ} {front : Bytes} (whole rest : Bytes)
    → p + length whole ≤ length o → Wrote o p front o' p' → x ≡ got a m → whole ≡ front ++ (text a ++ rest) → Room o' p' text x
room_next {text = text} {a = a} {m = m} whole rest room w e d = record { value = a; end = m; reads = e; room = room_after (text a) rest room w d }

-- what was written of a reading, by its value
pub record At {A : Type 0} (o : List ℕ) (p : ℕ) (text : A → Bytes) (a : A) (m : ℕ) (o' : List ℕ) (s : Spot) : Type 0 where
  pub wrote : Wrote o p (text a) o' s.pos
  pub next : s.next ≡ m

pub written_at : {A : Type 0} {o o' : List ℕ} {p : ℕ} {text : A → Bytes} {x : Reading A} {a : A} {m : ℕ} {s : Spot} → Written o p text x o' s → x ≡ got a m → At o p text a m o' s
written_at {text = text} {a = a} w e =
    let v : w.value ≡ a = cc w.reads in
    record { wrote = wrote_as (ap text v) w.wrote; next = cc w.reads }

-- the whole, from its pieces
pub done : {A : Type 0} {o o' : List ℕ} {p : ℕ} {text : A → Bytes} {x : Reading A} {s : Spot} {b : Bytes} (r : Room o p text x)
    → s.next ≡ r.end → text r.value ≡ b → Wrote o p b o' s.pos → Written o p text x o' s
done r e d w = record { value = r.value; reads = r.reads ∙ ap (got r.value) (sym e); wrote = wrote_as (sym d) w }

-- a part between `opening`, which is written, and `closing`
module _ {A B : Type 0} {o : List ℕ} {p : ℕ} {whole : A → Bytes} {y : Reading A} (r : Room o p whole y) {text : B → Bytes} {x : Reading B} {b : B} {m : ℕ} (reads : x ≡ got b m)
    (opening closing : Bytes) (splits : whole r.value ≡ opening ++ (text b ++ closing)) {o₁ : List ℕ} {p₁ : ℕ} (w : Wrote o p opening o₁ p₁) where
  pub room-between : Room o₁ p₁ text x
  room-between = room_next (whole r.value) closing r.room w reads splits

  module _ {o₂ : List ℕ} {s : Spot} (part : Written o₁ p₁ text x o₂ s) where
    pub wrote-between : Wrote o p (opening ++ text b) o₂ s.pos
    wrote-between = wrote_then w (written_at part reads).wrote

    splits_last : whole r.value ≡ opening ++ text b ++ closing
    splits_last = splits ∙ sym (append_assoc opening (text b) closing)

    pub close-room : s.pos + length closing ≤ length o₂
    close-room = room-last closing r.room wrote-between splits_last

    pub close-done : m ≡ r.end → {o₃ : List ℕ} {p₃ : ℕ} → Wrote o₂ s.pos closing o₃ p₃ → Written o p whole y o₃ (record { next = s.next; pos = p₃ })
    close-done e v = done r ((written_at part reads).next ∙ e) splits_last (wrote_then wrote-between v)

-- all but the type that ends it, from its pieces
pub front-done : {again : ℕ → Reading (Ty Bytes)} {from : ℕ} {o o' : List ℕ} {p : ℕ} {x : Reading (Ty Bytes)} {s : Spot} {last : Ty Bytes} {b : Bytes} (r : Room o p Type-to_string x)
    → again s.next ≡ got last r.end → from ≤ s.next → Type-to_string r.value ≡ b ++ Type-to_string last → Wrote o p b o' s.pos → Front again from o p x o' s
front-done {last = last} {b = b} r e a d w = record {
  value = r.value;
  last = last;
  end = r.end;
  front = b;
  reads = r.reads;
  rest = e;
  ahead = a;
  wrote = w;
  splits = d;
}
