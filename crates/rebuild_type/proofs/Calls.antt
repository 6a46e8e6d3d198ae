-- What a rebuilt tree leaves in the caller's buffer, and the call's answer.
use Rattle.std.specs.Prelude.{Ok, Err, Some, None, Result, Option}
use Prim.Native.Nat.{ℕ, ◌≤◌, ◌<◌}
use mathlib.Core.Path.{◌≡◌, refl, ap, sym, ◌∙◌, subst}
use mathlib.Core.List.{List}
use native.Mathlib.Omega.{arith}
use borrow.Author.Tests.{lt-ltb, le-ltb, eq-eqb, ne_eqb}
use lib.ListN.{length, take}
use lib.Seq.{sets, take_all}
use Rattle.rast.specs.Bytes.{Bytes}
use Rattle.encoding.specs.declared.Refusal.{Refusal}
use Rattle.encoding.specs.declared.Refusal.TheVariants.{LeftOver, TooDeep, BufferTooShort}
use Rattle.encoding.specs.Refusals.{Answer, unless}
use Rattle.encoding.specs.Reading.{Reading, got, stop, whole}
use Rattle.encoding.specs.Scans.{map_reading}
use Rattle.encoding.proofs.Tables.{impossible}
use Rattle.buffer.proofs.Laws.{sets-front}
use Rattle.encoding.proofs.Reading.{got-value, map-got}
use Rattle.tree_words.specs.Runs.{Run}
use Rattle.accepted_types.specs.Accepted.{Readable}
use Rattle.rebuild_spec.specs.Rules.{Rule, rules_of}
use Rattle.rebuild_rules.specs.Scans.{RulesRead, read, unread}
use Rattle.rebuild_type.specs.declared.Attempt.{Attempt}
use Rattle.rebuild_type.specs.declared.Attempt.TheVariants.{Filled, Denied, NoRoom}
use Rattle.rebuild_type.specs.Laid.{Rebuilds, rebuilt, full, rule_list, Ruled}
use Rattle.rebuild_type.specs.Calls.{RebuiltWords, room_of, zeros, laid_down, ruled_by}
use Rattle.rebuild_type.specs.Attempts.{same_words, LaidRebuilds, Attempted, answered, denied, no_room, Fills}
use Rattle.rebuild_type.proofs.Types.{came, filled}

-- more words would lie there than there is room
pub down-over : (o : List ℕ) (b : RebuiltWords) {o' : List ℕ} → room_of o < b.top → o' ≡ zeros o → ◌≡◌ {A = Result ℕ Refusal × List ℕ} (Err BufferTooShort, o') (laid_down o (Ok b))
unfolding laid_down
down-over o b h e = rw (lt-ltb (room_of o) b.top h, e) refl

-- the tree is too deep
pub down-deep : (o : List ℕ) (b : RebuiltWords) {o' : List ℕ} → b.top ≤ room_of o → 64 < b.deep → o' ≡ zeros o → ◌≡◌ {A = Result ℕ Refusal × List ℕ} (Err TooDeep, o') (laid_down o (Ok b))
unfolding laid_down
down-deep o b h k e = rw (le-ltb (room_of o) b.top h, lt-ltb 64 b.deep k, e) refl

-- the words fill the front
pub down-front : (o : List ℕ) (b : RebuiltWords) {o' : List ℕ} {n : ℕ} → b.top ≤ room_of o → b.deep ≤ 64 → length b.words ≤ length o → o' ≡ sets o 0 b.words → n ≡ length b.words
    → ◌≡◌ {A = Result ℕ Refusal × List ℕ} (Ok n, o') (laid_down o (Ok b))
unfolding laid_down
down-front o b h k l e d = rw (le-ltb (room_of o) b.top h, le-ltb 64 b.deep k, e, d, sets-front b.words o l) refl

-- how deep a tree is does not matter, if it is not too deep
shallow : (o ws : List ℕ) (d : ℕ) → d ≤ 64 → laid_down o (Ok (same_words ws 0)) ≡ laid_down o (Ok (same_words ws d))
unfolding laid_down
shallow o ws d h = rw (le-ltb 64 d h) refl

-- a test goes before the answer
module _ (o : List ℕ) (x : Answer RebuiltWords) {r c : Result (Unit {0}) Refusal} (e : r ≡ c) where
  pub down-passed : {p : Result ℕ Refusal × List ℕ} → r ≡ Ok tt → p ≡ laid_down o x → p ≡ laid_down o (unless c x)
  unfolding unless
  down-passed d h = rw (sym e ∙ d) h

  pub down-failed : {k : Refusal} → r ≡ Err k → ◌≡◌ {A = Result ℕ Refusal × List ℕ} (Err k, o) (laid_down o (unless c x))
  unfolding unless laid_down
  down-failed d = rw (sym e ∙ d) refl

-- ---- what was read

-- the answer to what was read
pub read-fills : {x : Reading RebuiltWords} {b : RebuiltWords} {n : ℕ} {o o' : List ℕ} {r : Result ℕ Refusal} → x ≡ got b n → (r, o') ≡ laid_down o (Ok b) → Fills x o o' r
read-fills {o = o} e h = record { fills = λ c k d. h ∙ ap (λ l. laid_down o (Ok l)) (got-value (sym e ∙ d)) }

-- words that are copied as they stand
pub copied-fills : {A : Type 0} (add_words : A → RebuiltWords) (deep : A → ℕ) {x : Reading A} {a : A} {n : ℕ} {ws o o' : List ℕ} {r : Result ℕ Refusal} → x ≡ got a n → deep a ≤ 64 → add_words a ≡ same_words ws (deep a)
    → (r, o') ≡ laid_down o (Ok (same_words ws 0)) → Fills (map_reading add_words x) o o' r
copied-fills add_words deep {a = a} {ws = ws} {o = o} e l k h = read-fills (map-got add_words e) (h ∙ shallow o ws (deep a) l ∙ ap (λ b. laid_down o (Ok b)) (sym k))

-- words that fill others are these
pub run-whole : {ws b : List ℕ} → Run ws 0 b → length ws ≡ length b → b ≡ ws
run-whole {ws} {b} r e = sym r.words ∙ take_all (length b) ws (omega (arith, e))

-- ---- one attempt

-- trees with the same words and depth that both have room are answered alike
down-same : (o : List ℕ) (b c : RebuiltWords) → b.words ≡ c.words → b.deep ≡ c.deep → b.top ≤ room_of o → c.top ≤ room_of o → laid_down o (Ok b) ≡ laid_down o (Ok c)
unfolding laid_down
down-same o b c e d h k = rw (le-ltb (room_of o) b.top h, le-ltb (room_of o) c.top k, e, d) refl

module _ (x : Reading RebuiltWords) (o : List ℕ) {limit : ℕ} {s s' : List ℕ} {r : Option (ℕ × ℕ × ℕ)} (k : LaidRebuilds limit s x s' r) where
  -- the words fit the scratch and the caller's buffer
  pub attempt-fits : {n q d : ℕ} → limit ≤ length s → limit ≤ room_of o → r ≡ Some (n, q, d) → (q ≤ length s') × (q ≤ length o) × (q ≤ 8192)
  attempt-fits h l e = let b = came k e in (omega (arith, b.grown.kept, b.within), omega (arith, b.within), omega (arith, b.within))

  module _ {n q d : ℕ} {a : Result ℕ Refusal} {o' : List ℕ} (l : limit ≤ room_of o) (e : r ≡ Some (n, q, d)) (f : (a, o') ≡ laid_down o (Ok (record { words = take q s'; top = q; deep = d }))) where
    -- the answer for the words in the scratch is the one for what was read
    attempt-same : (a, o') ≡ laid_down o (Ok (came k e).value)
    attempt-same =
        let b = came k e in
        f ∙ down-same o (record { words = take q s'; top = q; deep = d }) b.value b.grown.front b.deeps (omega (arith, b.within)) (omega (arith, b.fits))

    pub attempt-filled : {m : ℕ} → a ≡ Ok m → Attempted limit x o o' (Filled m)
    attempt-filled g = answered (came k e).reads (rw g at attempt-same)

    pub attempt-denied : {c : Refusal} → a ≡ Err c → Attempted limit x o o' (Denied c)
    attempt-denied g = denied (came k e).reads (rw g at attempt-same)

  pub attempt-full : {o' : List ℕ} {a : RebuiltWords} {n : ℕ} → x ≡ got a n → r ≡ None → o' ≡ o → Attempted limit x o o' NoRoom
  attempt-full {a = a} c e d =
      let f = filled k e c in
      let g : limit < a.top = omega (arith, f.0) in
      no_room c g d

-- what was read and laid down is what is laid down for it
pub laid-mapped : {A : Type 0} (add_words : A → RebuiltWords) (x : Reading A) {limit : ℕ} {s s' : List ℕ} {r : Option (ℕ × ℕ × ℕ)}
    → Rebuilds (λ a. (add_words a).words) (λ a. (add_words a).top) (λ a. (add_words a).deep) limit s 0 x s' r → LaidRebuilds limit s (map_reading add_words x) s' r
laid-mapped add_words x (rebuilt e f w g c) = rebuilt (map-got add_words e) f w g c
laid-mapped add_words x (full e h l) = full (map-got add_words e) h l

pub mapped-reads : {A : Type 0} (add_words : A → RebuiltWords) (x : Reading A) → Readable (map_reading add_words x) → Readable x
unfolding map_reading
mapped-reads add_words (got a n) r = record { value = a; end = n; reads = refl }
mapped-reads add_words (stop k) r = impossible (let e = r.reads in cc)

-- ---- the answer of an attempt

pub filled-fills : {limit : ℕ} {x : Reading RebuiltWords} {o o' : List ℕ} {a : Attempt} {m : ℕ} → Attempted limit x o o' a → a ≡ Filled m → Fills x o o' (Ok m)
filled-fills {limit} {x} {o} {o'} {m = m} k e = go (subst (Attempted limit x o o') e k)
  where
    go : Attempted limit x o o' (Filled m) → Fills x o o' (Ok m)
    go (answered c f) = read-fills c f

pub denied-fills : {limit : ℕ} {x : Reading RebuiltWords} {o o' : List ℕ} {a : Attempt} {r : Refusal} → Attempted limit x o o' a → a ≡ Denied r → Fills x o o' (Err r)
denied-fills {limit} {x} {o} {o'} {r = r} k e = go (subst (Attempted limit x o o') e k)
  where
    go : Attempted limit x o o' (Denied r) → Fills x o o' (Err r)
    go (denied c f) = read-fills c f

-- there was no room in the caller's buffer
pub attempt-over : {limit : ℕ} {x : Reading RebuiltWords} {o o' o'' : List ℕ} {a : Attempt} → Attempted limit x o o' a → a ≡ NoRoom → limit ≡ room_of o → o'' ≡ zeros o' → Fills x o o'' (Err BufferTooShort)
attempt-over {limit} {x} {o} {o'} {o''} k e l z = go (subst (Attempted limit x o o') e k)
  where
    go : Attempted limit x o o' NoRoom → Fills x o o'' (Err BufferTooShort)
    go (no_room {b = b} c h d) = read-fills c (down-over o b (rw (sym l) h) (z ∙ ap zeros d))

-- there was no room in the scratch
pub attempt-again : {limit : ℕ} {x : Reading RebuiltWords} {o o' o'' : List ℕ} {a : Attempt} {r : Result ℕ Refusal} → Attempted limit x o o' a → a ≡ NoRoom → Fills x o' o'' r → Fills x o o'' r
attempt-again {limit} {x} {o} {o'} {o''} {r = r} k e f = go (subst (Attempted limit x o o') e k)
  where
    go : Attempted limit x o o' NoRoom → Fills x o o'' r
    go (no_room c h d) = subst (λ l. Fills x l o'' r) d f

-- ---- the tree, and the rules

pub ruled-of : {rules pairs : List ℕ} {text : Bytes} {table : List ℕ} {r : Result ℕ Refusal} {k : ℕ} → RulesRead rules pairs text table r → r ≡ Ok k → Ruled rules pairs text table k
unfolding rule_list
ruled-of {rules} {pairs} {text} {table} {k = k} a e = go a e
  where
    go : {r : Result ℕ Refusal} → RulesRead rules pairs text table r → r ≡ Ok k → Ruled rules pairs text table k
    go (read {rs = rs} c t f l) e =
        let n : length rs ≡ k = cc in
        record { tabled = rw c t; many = rw c n; fits = rw n at f; links = rw n at l }
    go (unread c) e = impossible (cc)

pub rules-given : {rules pairs : List ℕ} {text : Bytes} {table : List ℕ} {r : Result ℕ Refusal} {k : ℕ} → RulesRead rules pairs text table r → r ≡ Ok k → rules_of rules pairs text ≡ Ok (rule_list (rules_of rules pairs text))
unfolding rule_list
rules-given {rules} {pairs} {text} {table} {k = k} a e = go a e
  where
    go : {r : Result ℕ Refusal} → RulesRead rules pairs text table r → r ≡ Ok k → rules_of rules pairs text ≡ Ok (rule_list (rules_of rules pairs text))
    go (read c t f l) e = rw c refl
    go (unread c) e = impossible (cc)

pub rules-refused : {rules pairs : List ℕ} {text : Bytes} {table : List ℕ} {r : Result ℕ Refusal} {k : Refusal} → RulesRead rules pairs text table r → r ≡ Err k → rules_of rules pairs text ≡ Err k
rules-refused {rules} {pairs} {text} {table} {k = k} a e = go a e
  where
    go : {r : Result ℕ Refusal} → RulesRead rules pairs text table r → r ≡ Err k → rules_of rules pairs text ≡ Err k
    go (read c t f l) e = impossible (cc)
    go (unread c) e = c ∙ cc

module _ {A : Type 0} (f : List Rule → A → RebuiltWords) (o : List ℕ) (size : ℕ) (x : Reading A) (y : Answer (List Rule)) where
  pub tree-stops : {k : Refusal} → x ≡ stop k → ◌≡◌ {A = Result ℕ Refusal × List ℕ} (Err k, o) (laid_down o (ruled_by f (whole size x) y))
  unfolding laid_down ruled_by whole
  tree-stops e = rw e refl

  pub tree_over : {a : A} {n : ℕ} → x ≡ got a n → (n ≡ size → ⊥) → ◌≡◌ {A = Result ℕ Refusal × List ℕ} (Err LeftOver, o) (laid_down o (ruled_by f (whole size x) y))
  unfolding laid_down ruled_by whole
  tree_over {n = n} e d = rw (e, ne_eqb n size d) refl

  pub rules-stop-it : {a : A} {n : ℕ} {k : Refusal} → x ≡ got a n → n ≡ size → y ≡ Err k → ◌≡◌ {A = Result ℕ Refusal × List ℕ} (Err k, o) (laid_down o (ruled_by f (whole size x) y))
  unfolding laid_down ruled_by whole
  rules-stop-it {n = n} e d c = rw (e, eq-eqb n size d, c) refl

  pub both-given : {a : A} {n : ℕ} {rs : List Rule} → x ≡ got a n → n ≡ size → y ≡ Ok rs → ruled_by f (whole size x) y ≡ Ok (f rs a)
  unfolding ruled_by whole
  both-given {n = n} e d c = rw (e, eq-eqb n size d, c) refl

pub whole-filled : {A : Type 0} (f : List Rule → A → RebuiltWords) (size : ℕ) (x : Reading A) (y : Answer (List Rule)) {o o' : List ℕ} {r : Result ℕ Refusal} {a : A} {n : ℕ} → x ≡ got a n → n ≡ size
    → y ≡ Ok (rule_list y) → Fills (map_reading (f (rule_list y)) x) o o' r → (r, o') ≡ laid_down o (ruled_by f (whole size x) y)
whole-filled f size x y {o} {a = a} {n = n} e d c k =
    k.fills (f (rule_list y) a) n (map-got (f (rule_list y)) e) ∙ ap (laid_down o) (sym (both-given f o size x y e d c))
