-- From a head's reading to the code's answer, and back.
use Rattle.std.specs.Prelude.{Result, Ok, Err}
use Prim.Native.Nat.{ℕ, ◌+◌, ◌*◌, ◌-◌, ◌/◌, ◌%◌, ◌^◌, ◌<◌}
use mathlib.Core.Path.{◌≡◌, refl}
use mathlib.Core.Bool.{Bool, true, false, not}
use mathlib.Core.List.{List}
use native.Mathlib.Omega.{arith}
use borrow.Author.Tests.{eqb-true}
use lib.Dec.{eqb}
use Rattle.rast.specs.Bytes.{Bytes, ◌and◌}
use Rattle.rast.specs.Sound.{sound_size}
use Rattle.encoding.specs.declared.Refusal.{Refusal}
use Rattle.encoding.specs.declared.Head.{Head}
use Rattle.encoding.specs.declared.Head.TheVariants.{Apply, Both, ArrayOf}
use Rattle.encoding.specs.Refusals.{pick}
use Rattle.encoding.specs.Reading.{Reading, got, stop}
use Rattle.encoding.specs.Tables.{name_bytes}
use Rattle.encoding.specs.HeadWords.{kids}
use Rattle.encoding.specs.Types.{size_of}
use Rattle.encoding.proofs.Tables.{impossible}
use Rattle.text_measure.specs.Lengths.{CutDown, exact}
use Rattle.sound_type.specs.declared.OwnScan.{OwnScan}
use Rattle.sound_type.specs.declared.OwnScan.TheVariants.{Leaf, Node, NotSound}
use Rattle.sound_type.specs.Judging.{unless_judged, head_fits, words_sound, head_sound, first_judged, last_judged, first_ask, last_ask, Scanned, leaf, node, not_sound, none, node_scan, both_scan, bare_scan, leaf_scan}

-- a level, from the count of its types, with or without the first
pub counted-level : (k ask : ℕ) {n : ℕ} → ask < 4 → CutDown (k + 1) n → CutDown ((4 * k + ask) / 4 + 1) n
counted-level k ask h c = let e : (4 * k + ask) / 4 ≡ k = omega arith in rw e c

pub counted-behind : (k : ℕ) {n : ℕ} → 0 < k → CutDown k n → CutDown ((4 * k - 3) / 4 + 1) n
counted-behind k h c = let e : (4 * k - 3) / 4 + 1 ≡ k = omega arith in rw e c

module _ (ws pairs : List ℕ) (text : Bytes) (ask : ℕ) {x : Reading Head} where
  pub scanned-leaf : (h : Head) {r : OwnScan} {n : ℕ} → x ≡ got h n → r ≡ Leaf n → kids h ≡ 0 → head_sound ws (name_bytes pairs text) ask h ≡ true
      → Scanned ws pairs text ask x (Ok r)
  scanned-leaf h e d k s = rw d (leaf e k s)

  node-as : (h : Head) (n l : ℕ) {a : ℕ} → x ≡ got h n → CutDown (l / 4 + 1) (kids h) → head_sound ws (name_bytes pairs text) ask h ≡ true
      → a ≡ first_ask ask h → l % 4 ≡ last_ask ask h → l < 2 ^ 16 → Scanned ws pairs text ask x (Ok (Node n a l))
  node-as h n l e c s a b w = node e c s a b w

  -- a wrapper hands on what it is asked
  pub scanned-wrapper : (h : Head) {r : OwnScan} {n l : ℕ} → x ≡ got h n → r ≡ Node n ask l → head_fits ask h ≡ true → words_sound ws (name_bytes pairs text) h ≡ true
      → first_judged ask h ≡ ask → last_judged h ≡ 0 → CutDown (l / 4 + 1) (kids h) → l % 4 ≡ 0 → l < 2 ^ 16 → Scanned ws pairs text ask x (Ok r)
  unfolding head_sound first_ask last_ask unless_judged ◌and◌
  scanned-wrapper h {n = n} {l = l} e d f s a b c m w =
      rw d (go (eqb ask 0) refl)
    where
      go : (t : Bool) → eqb ask 0 ≡ t → Scanned ws pairs text ask x (Ok (Node n ask l))
      go true i = node-as h n l e c (rw i) (rw (i, eqb-true ask 0 i)) (rw i m) w
      go false i = node-as h n l e c (rw (i, f, s)) (rw (i, a)) (rw (i, b) m) w

  pub scanned-unsound : (h : Head) {r : OwnScan} {n : ℕ} → x ≡ got h n → r ≡ NotSound → head_sound ws (name_bytes pairs text) ask h ≡ false
      → Scanned ws pairs text ask x (Ok r)
  scanned-unsound h {n = n} e d s = rw d (not_sound (λ g m i. let same : g ≡ h = cc in rw same s))

  pub scanned-stop : {r : Result OwnScan Refusal} {k : Refusal} → x ≡ stop k → r ≡ Err k → Scanned ws pairs text ask x r
  scanned-stop e d = rw d (none e)

  pub scanned-as : {y : Reading Head} {r : Result OwnScan Refusal} → x ≡ y → Scanned ws pairs text ask y r → Scanned ws pairs text ask x r
  scanned-as e s = rw e s

  -- a head that is neither a wrapper nor an intersection
  scanned-judged : (h : Head) {r : OwnScan} {n first l : ℕ} → x ≡ got h n → r ≡ node_scan n ask first l → head_fits ask h ≡ not (eqb ask 2)
      → (eqb ask 0 ≡ false → words_sound ws (name_bytes pairs text) h ≡ true) → first ≡ first_judged ask h → l % 4 ≡ last_judged h → CutDown (l / 4 + 1) (kids h) → l < 2 ^ 16
      → Scanned ws pairs text ask x (Ok r)
  unfolding head_sound first_ask last_ask unless_judged ◌and◌
  scanned-judged h {r} {n} {first} {l} e d f s a b c w = rw d (go (eqb ask 0) (eqb ask 2) refl refl)
    where
      go : (t u : Bool) → eqb ask 0 ≡ t → eqb ask 2 ≡ u → Scanned ws pairs text ask x (Ok (pick t (Node n 0 (l / 4 * 4)) (pick u NotSound (Node n first l))))
      go true u i j =
          let same : l / 4 * 4 / 4 ≡ l / 4 = omega arith in
          let even : l / 4 * 4 % 4 ≡ 0 = omega arith in
          node-as h n (l / 4 * 4) e (rw same c) (rw i) (rw i) (rw i even) (omega arith)
      go false true i j = scanned-unsound h e refl (rw (i, f, j))
      go false false i j = node-as h n l e c (rw (i, f, j, s i)) (rw i a) (rw i b) w

  pub scanned-node : (h : Head) {r : OwnScan} {n first l : ℕ} → x ≡ got h n → r ≡ node_scan n ask first l → head_fits ask h ≡ not (eqb ask 2)
      → words_sound ws (name_bytes pairs text) h ≡ true → first ≡ first_judged ask h → l % 4 ≡ last_judged h → CutDown (l / 4 + 1) (kids h) → l < 2 ^ 16
      → Scanned ws pairs text ask x (Ok r)
  scanned-node h e d f s = scanned-judged h e d f (λ i. s)

  -- an array, by its size
  pub scanned-array : (s : ℕ) {r : OwnScan} {n : ℕ} → x ≡ got (ArrayOf s) n → r ≡ node_scan n ask 1 0
      → unless_judged ask (sound_size (size_of (name_bytes pairs text) s)) ≡ true → Scanned ws pairs text ask x (Ok r)
  unfolding unless_judged words_sound
  scanned-array s e d f = scanned-judged (ArrayOf s) {l = 0} e d refl (λ i. rw i at f) refl refl (exact refl) (omega arith)

  pub unsound-array : (s : ℕ) {r : OwnScan} {n : ℕ} → x ≡ got (ArrayOf s) n → r ≡ NotSound
      → unless_judged ask (sound_size (size_of (name_bytes pairs text) s)) ≡ false → Scanned ws pairs text ask x (Ok r)
  unfolding head_sound unless_judged words_sound ◌and◌
  unsound-array s e d f = scanned-unsound (ArrayOf s) e d (go (eqb ask 0) (eqb ask 2) (sound_size (size_of (name_bytes pairs text) s)) f)
    where
      go : (t u v : Bool) → pick t true v ≡ false → pick t true (not u and v) ≡ false
      go true u v i = impossible (cc)
      go false true v i = refl
      go false false v i = i

  pub scanned-both : {r : OwnScan} {n : ℕ} → x ≡ got Both n → r ≡ both_scan n ask → Scanned ws pairs text ask x (Ok r)
  unfolding head_sound first_ask last_ask unless_judged words_sound ◌and◌
  scanned-both {r} {n} e d = rw d (go (eqb ask 0) (eqb ask 2) (eqb ask 3) refl refl refl)
    where
      go : (t u v : Bool) → eqb ask 0 ≡ t → eqb ask 2 ≡ u → eqb ask 3 ≡ v
          → Scanned ws pairs text ask x (Ok (pick v NotSound (pick t (Node n 0 4) (pick u NotSound (Node n 3 5)))))
      go t u true i j k = scanned-unsound Both e refl (rw (eqb-true ask 3 k))
      go true u false i j k = node-as Both n 4 e (exact refl) (rw i) (rw i) (rw i) (omega arith)
      go false true false i j k = scanned-unsound Both e refl (rw (i, j))
      go false false false i j k = node-as Both n 5 e (exact refl) (rw (i, j, k)) (rw i) (rw i) (omega arith)

  -- a type with arguments that has none
  pub scanned-bare : {r : OwnScan} {n : ℕ} → x ≡ got (Apply 0) n → r ≡ bare_scan n ask → Scanned ws pairs text ask x (Ok r)
  unfolding head_sound first_ask last_ask unless_judged words_sound ◌and◌
  scanned-bare {r} {n} e d = rw d (go (eqb ask 0) (eqb ask 2) refl refl)
    where
      go : (t u : Bool) → eqb ask 0 ≡ t → eqb ask 2 ≡ u → Scanned ws pairs text ask x (Ok (pick t (Node n 0 0) NotSound))
      go true u i j = node-as (Apply 0) n 0 e (exact refl) (rw i) (rw i) (rw i) (omega arith)
      go false true i j = scanned-unsound (Apply 0) e refl (rw (i, j))
      go false false i j = scanned-unsound (Apply 0) e refl (rw (i, j))

  -- a leaf that is neither a name nor a path
  pub scanned-plain : (h : Head) {r : OwnScan} {n : ℕ} → x ≡ got h n → r ≡ leaf_scan n ask → kids h ≡ 0 → head_fits ask h ≡ not (eqb ask 2)
      → words_sound ws (name_bytes pairs text) h ≡ true → Scanned ws pairs text ask x (Ok r)
  unfolding head_sound unless_judged ◌and◌
  scanned-plain h {r} {n} e d k f s = rw d (go (eqb ask 0) (eqb ask 2) refl refl)
    where
      go : (t u : Bool) → eqb ask 0 ≡ t → eqb ask 2 ≡ u → Scanned ws pairs text ask x (Ok (pick u NotSound (Leaf n)))
      go t true i j = scanned-unsound h e refl (rw (f, j, eqb-true ask 2 j))
      go true false i j = scanned-leaf h e refl k (rw i)
      go false false i j = scanned-leaf h e refl k (rw (i, f, j, s))

-- ---- the head behind an answer

-- with no types
pub record OwnLeaf (ws pairs : List ℕ) (text : Bytes) (ask : ℕ) (x : Reading Head) (next : ℕ) : Type 0 where
  pub head : Head
  pub read : x ≡ got head next
  pub no_kids : kids head ≡ 0
  pub sound : head_sound ws (name_bytes pairs text) ask head ≡ true

-- with types
pub record OwnNode (ws pairs : List ℕ) (text : Bytes) (ask : ℕ) (x : Reading Head) (next first level : ℕ) : Type 0 where
  pub head : Head
  pub read : x ≡ got head next
  pub same-kids : CutDown (level / 4 + 1) (kids head)
  pub sound : head_sound ws (name_bytes pairs text) ask head ≡ true
  pub same_first : first ≡ first_ask ask head
  pub same-last : level % 4 ≡ last_ask ask head
  pub few : level < 2 ^ 16

module _ {ws pairs : List ℕ} {text : Bytes} {ask : ℕ} {x : Reading Head} where
  pub own-leaf : {r : Result OwnScan Refusal} {n : ℕ} → Scanned ws pairs text ask x r → r ≡ Ok (Leaf n) → OwnLeaf ws pairs text ask x n
  own-leaf {n = n'} (leaf {h} {n} e k s) d = let f : n' ≡ n = cc in rw f (record { head = h; read = e; no_kids = k; sound = s })
  own-leaf (node e c s a b w) d = impossible (cc)
  own-leaf (not_sound u) d = impossible (cc)
  own-leaf (none e) d = impossible (cc)

  pub own-node : {r : Result OwnScan Refusal} {n a l : ℕ} → Scanned ws pairs text ask x r → r ≡ Ok (Node n a l) → OwnNode ws pairs text ask x n a l
  own-node (leaf e k s) d = impossible (cc)
  own-node {n = n'} {a = a'} {l = l'} (node {h} {n} {a} {l} e c s f b w) d =
      let en : n' ≡ n = cc in
      let ea : a' ≡ a = cc in
      let el : l' ≡ l = cc in
      rw (en, ea, el) (record { head = h; read = e; same-kids = c; sound = s; same_first = f; same-last = b; few = w })
  own-node (not_sound u) d = impossible (cc)
  own-node (none e) d = impossible (cc)

  pub own-unsound : {r : Result OwnScan Refusal} → Scanned ws pairs text ask x r → r ≡ Ok NotSound → (h : Head) (n : ℕ) → x ≡ got h n → head_sound ws (name_bytes pairs text) ask h ≡ false
  own-unsound (leaf e k s) d = impossible (cc)
  own-unsound (node e c s a b w) d = impossible (cc)
  own-unsound (not_sound u) d = u
  own-unsound (none e) d = impossible (cc)

  pub own-stop : {r : Result OwnScan Refusal} {k : Refusal} → Scanned ws pairs text ask x r → r ≡ Err k → x ≡ stop k
  own-stop (leaf e k s) d = impossible (cc)
  own-stop (node e c s a b w) d = impossible (cc)
  own-stop (not_sound u) d = impossible (cc)
  own-stop {k = k} (none {r} e) d = let f : r ≡ k = cc in rw f at e
