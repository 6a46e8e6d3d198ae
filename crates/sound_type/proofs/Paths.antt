-- Laws of paths.
use Rattle.std.specs.Prelude.{Result, Ok, Err}
use Prim.Native.Nat.{ℕ, ◌+◌, ◌-◌, ◌≤◌, ◌<◌}
use mathlib.Core.Path.{◌≡◌, refl, ap, sym, ◌∙◌, subst}
use mathlib.Core.Bool.{Bool, true, false, not}
use mathlib.Core.List.{List, [], ◌∷◌, map}
use native.Mathlib.Omega.{arith}
use lib.Dec.{eqb}
use lib.ListN.{length, get_or, take, drop}
use Rattle.rast.specs.Bytes.{Bytes, ◌and◌}
use Rattle.rast.specs.Tree.{Path, Global, Crate, Self, PMemberSelect, MSels}
use Rattle.rast.specs.Sound.{sound_name, sound_names, is_global, sound_path}
use Rattle.rast.proofs.BytesLaws.{and-true, and_assoc}
use Rattle.encoding.specs.declared.Refusal.{Refusal}
use Rattle.encoding.specs.declared.Refusal.TheVariants.{UnknownWord}
use Rattle.encoding.specs.declared.PathAt.{PathAt}
use Rattle.encoding.specs.Refusals.{pick}
use Rattle.encoding.specs.declared.Head.TheVariants.{Name, FromPath}
use Rattle.encoding.specs.Reading.{got, stop, read_below, read_names}
use Rattle.encoding.specs.Tables.{name_bytes, name_count}
use Rattle.encoding.specs.Types.{root_of, path_of}
use Rattle.encoding.proofs.Tables.{impossible}
use Rattle.encoding.proofs.Types.{bind-got, made_got}
use Rattle.encoding.proofs.Inside.{Holds, Names, names-hold, below-there}
use Rattle.encoding.proofs.Reading.{below_in, below_out}
use Rattle.text_measure.specs.Lengths.{worded, names_path, head_of_path}
use Rattle.text_measure.proofs.PathNames.{part-next, part_none, NamesTo, names-on, names-halt, names-all}
use Rattle.buffer.proofs.Laws.{part_length}
use Rattle.sound_type.specs.declared.OwnScan.{OwnScan}
use Rattle.sound_type.specs.declared.OwnScan.TheVariants.{Leaf, NotSound}
use Rattle.sound_type.specs.Judging.{all_names_sound, unless_judged, NamesOnward, words_sound, head_sound, Scanned, not_sound, root_scan}
use Rattle.encoding.proofs.Names.{part-to}
use Rattle.sound_type.proofs.Names.{judged-sound}
use Rattle.sound_type.proofs.Scans.{scanned-leaf, scanned-unsound, scanned-stop}

-- ---- the names one by one

names_more : (name : ℕ → Bytes) (ws : List ℕ) (i end : ℕ) → i < end → i < length ws
    → all_names_sound name (take (end - i) (drop i ws)) ≡ (sound_name (name (get_or ws i 0)) and all_names_sound name (take (end - (i + 1)) (drop (i + 1) ws)))
unfolding all_names_sound
names_more name ws i end h l = rw (part-next ws i end h l)

names-end : (name : ℕ → Bytes) (ws : List ℕ) (i end : ℕ) → end ≤ i → all_names_sound name (take (end - i) (drop i ws)) ≡ true
unfolding all_names_sound
names-end name ws i end h = rw (part_none ws i end h)

-- ---- a whole path

members-sound : (name : ℕ → Bytes) (p : Path Bytes) (ws : List ℕ) → sound_names (MSels p (map name ws)) ≡ (sound_names p and all_names_sound name ws)
unfolding MSels sound_names all_names_sound
members-sound name p [] = sym (and-true (sound_names p))
members-sound name p (x ∷ ws) =
    members-sound name (PMemberSelect p (name x)) ws ∙ and_assoc (sound_names p) (sound_name (name x)) (all_names_sound name ws)

member-local : (p : Path Bytes) (x : Bytes) (xs : List Bytes) → is_global (MSels (PMemberSelect p x) xs) ≡ false
unfolding MSels is_global
member-local p x [] = refl
member-local p x (y ∷ xs) = member-local (PMemberSelect p x) y xs

root-sound : (r : ℕ) → sound_names (root_of r) ≡ true
unfolding root_of sound_names
root-sound r = go (eqb r 0) (eqb r 1)
  where
    go : (a b : Bool) → sound_names (pick a Global (pick b Crate Self)) ≡ true
    go true b = refl
    go false true = refl
    go false false = refl

root-global : (r : ℕ) → is_global {N = Bytes} (root_of r) ≡ eqb r 0
unfolding root_of is_global
root-global r = go (eqb r 0) (eqb r 1)
  where
    go : (a b : Bool) → is_global {N = Bytes} (pick a Global (pick b Crate Self)) ≡ a
    go true b = refl
    go false true = refl
    go false false = refl

pub path-bare : (ws : List ℕ) (name : ℕ → Bytes) (p : PathAt) → p.count ≡ 0 → sound_path (path_of ws name p) ≡ not (eqb p.root 0)
unfolding sound_path path_of MSels
path-bare ws name p e = rw (e, root-sound p.root, root-global p.root) (and-true (not (eqb p.root 0)))

named-sound : (name : ℕ → Bytes) (r : ℕ) (ws : List ℕ) → 0 < length ws → sound_path (MSels (root_of r) (map name ws)) ≡ all_names_sound name ws
unfolding sound_path MSels ◌and◌
named-sound name r [] h = absurd (let z : ⊥ = omega arith in z)
named-sound name r (x ∷ ws) h =
    rw (member-local (root_of r) (name x) (map name ws)) (members-sound name (root_of r) (x ∷ ws) ∙ rw (root-sound r))

pub path-named : (ws : List ℕ) (name : ℕ → Bytes) (p : PathAt) → 0 < p.count → p.start + p.count ≤ length ws
    → sound_path (path_of ws name p) ≡ all_names_sound name (take (p.start + p.count - p.start) (drop p.start ws))
unfolding path_of
path-named ws name p h k =
    let e = part_length ws p.start p.count k in
    rw (part-to ws p.start p.count) (named-sound name p.root (take p.count (drop p.start ws)) (omega arith))

-- ---- from name to name

module _ (ask : ℕ) where
  judged-next : (a b : Bool) → unless_judged ask a ≡ true → unless_judged ask (a and b) ≡ unless_judged ask b
  unfolding unless_judged ◌and◌
  judged-next a b e = go (eqb ask 0) a e
    where
      go : (t a : Bool) → pick t true a ≡ true → pick t true (a and b) ≡ pick t true b
      go true a d = refl
      go false a d = rw d

  judged-poor : (a b : Bool) → unless_judged ask a ≡ false → unless_judged ask (a and b) ≡ false
  unfolding unless_judged ◌and◌
  judged-poor a b e = go (eqb ask 0) a e
    where
      go : (t a : Bool) → pick t true a ≡ false → pick t true (a and b) ≡ false
      go true a d = impossible (cc)
      go false a d = rw d

module _ (bound : ℕ) (ws : List ℕ) (name : ℕ → Bytes) (ask start end : ℕ) where
  pub onward-here : start ≤ end → start ≤ length ws → NamesOnward bound ws name ask start end start
  onward-here h k = record { after = omega arith; within = h; inside = k; read = refl; fit = refl }

  pub onward_then : {i j : ℕ} → NamesOnward bound ws name ask start end i → NamesOnward bound ws name ask i end j → NamesOnward bound ws name ask start end j
  onward_then o n = record {
    after = omega (arith, o.after, n.after);
    within = n.within;
    inside = n.inside;
    read = n.read ∙ o.read;
    fit = n.fit ∙ o.fit;
  }

  module _ {i : ℕ} (o : NamesOnward bound ws name ask start end i) where
    names-to : NamesTo bound ws start end i
    names-to = record { within = o.within; inside = o.inside; read = o.read }

    pub onward-more : i < end → i < length ws → get_or ws i 0 < bound → unless_judged ask (sound_name (name (get_or ws i 0))) ≡ true → NamesOnward bound ws name ask start end (i + 1)
    onward-more h k b s = record {
      after = omega (arith, o.after);
      within = omega arith;
      inside = omega arith;
      read = (names-on bound ws start end i names-to h (below_in bound ws i k b)).read;
      fit = sym (judged-next ask (sound_name (name (get_or ws i 0))) (all_names_sound name (take (end - (i + 1)) (drop (i + 1) ws))) s) ∙ ap (unless_judged ask) (sym (names_more name ws i end h k)) ∙ o.fit;
    }

    pub onward-poor : i < end → i < length ws → unless_judged ask (sound_name (name (get_or ws i 0))) ≡ false
        → unless_judged ask (all_names_sound name (take (end - start) (drop start ws))) ≡ false
    onward-poor h k s = sym o.fit ∙ ap (unless_judged ask) (names_more name ws i end h k) ∙ judged-poor ask (sound_name (name (get_or ws i 0))) (all_names_sound name (take (end - (i + 1)) (drop (i + 1) ws))) s

    pub onward-stop : {r : Refusal} → i < end → read_below bound ws i ≡ stop r → read_names bound ws (end - start) start ≡ stop r
    onward-stop = names-halt bound ws start end i names-to

    pub onward-end : i ≡ end → read_names bound ws (end - start) start ≡ got tt end
    onward-end e = names-all bound ws start end i names-to (omega arith)

    pub onward-fit : i ≡ end → unless_judged ask (all_names_sound name (take (end - start) (drop start ws))) ≡ true
    onward-fit e = sym o.fit ∙ judged-sound ask (names-end name ws i end (omega arith))

-- ---- the head of a path

module _ (ws pairs : List ℕ) (text : Bytes) (ask : ℕ) (p : PathAt) (some : 0 < p.count) where
  path-fits : p.start + p.count ≤ length ws
      → head_sound ws (name_bytes pairs text) ask (FromPath p)
      ≡ unless_judged ask (all_names_sound (name_bytes pairs text) (take (p.start + p.count - p.start) (drop p.start ws)))
  unfolding head_sound words_sound ◌and◌
  path-fits h = ap (unless_judged ask) (path-named ws (name_bytes pairs text) p some h)

  counted : p.start + p.count - p.start ≡ p.count
  counted = omega arith

  module _ {i : ℕ} (o : NamesOnward (name_count pairs) ws (name_bytes pairs text) ask p.start (p.start + p.count) i) where
    pub path-leaf : i ≡ p.start + p.count → {r : OwnScan} → r ≡ Leaf (p.start + p.count) → Scanned ws pairs text ask (head_of_path (names_path (name_count pairs) ws p)) (Ok r)
    unfolding names_path
    path-leaf e d =
        let n = rw counted at (onward-end (name_count pairs) ws (name_bytes pairs text) ask p.start (p.start + p.count) o e) in
        scanned-leaf ws pairs text ask (FromPath p) (rw n) d refl
        (path-fits (omega (arith, o.inside)) ∙ onward-fit (name_count pairs) ws (name_bytes pairs text) ask p.start (p.start + p.count) o e)

    pub path-stop : i < p.start + p.count → {k : Refusal} → read_below (name_count pairs) ws i ≡ stop k → {r : Result OwnScan Refusal} → r ≡ Err k
        → Scanned ws pairs text ask (head_of_path (names_path (name_count pairs) ws p)) r
    unfolding names_path
    path-stop h e d =
        let n = rw counted at (onward-stop (name_count pairs) ws (name_bytes pairs text) ask p.start (p.start + p.count) o h e) in
        scanned-stop ws pairs text ask (rw n) d

    pub path-poor : i < p.start + p.count → i < length ws → unless_judged ask (sound_name (name_bytes pairs text (get_or ws i 0))) ≡ false → {r : OwnScan} → r ≡ NotSound
        → Scanned ws pairs text ask (head_of_path (names_path (name_count pairs) ws p)) (Ok r)
    unfolding names_path
    path-poor h k s d =
        rw d (not_sound (λ g n e.
        let t = bind-got (names_path (name_count pairs) ws p) (λ q r. got (FromPath q) r) e in
        let u = bind-got (read_names (name_count pairs) ws p.count p.start) (λ v r. got p r) t.first in
        let same : g ≡ FromPath p = let i = t.rest in let j = u.rest in cc in
        let lies = subst (Holds (Names (name_count pairs) ws p.count p.start)) u.first (names-hold (name_count pairs) ws p.count p.start (omega (arith, o.after, o.inside))) in
        rw same (path-fits lies.inside ∙ onward-poor (name_count pairs) ws (name_bytes pairs text) ask p.start (p.start + p.count) o h k s)))

-- a path with no names
pub path-root : (ws pairs : List ℕ) (text : Bytes) (ask : ℕ) (p : PathAt) → p.count ≡ 0 → {r : OwnScan} → r ≡ root_scan p.root p.start ask
    → Scanned ws pairs text ask (head_of_path (names_path (name_count pairs) ws p)) (Ok r)
unfolding names_path read_names head_sound words_sound unless_judged ◌and◌
path-root ws pairs text ask p e d = rw d (go (eqb p.root 0) (eqb ask 0) refl refl (rw e))
  where
    go : (t u : Bool) → eqb p.root 0 ≡ t → eqb ask 0 ≡ u → head_of_path (names_path (name_count pairs) ws p) ≡ got (FromPath p) p.start
        → Scanned ws pairs text ask (head_of_path (names_path (name_count pairs) ws p)) (Ok (pick t (pick u (Leaf p.start) NotSound) (Leaf p.start)))
    go true true i j read = scanned-leaf ws pairs text ask (FromPath p) read refl refl (rw j)
    go true false i j read = scanned-unsound ws pairs text ask (FromPath p) read refl (rw (j, path-bare ws (name_bytes pairs text) p e, i))
    go false true i j read = scanned-leaf ws pairs text ask (FromPath p) read refl refl (rw j)
    go false false i j read = scanned-leaf ws pairs text ask (FromPath p) read refl refl (rw (j, path-bare ws (name_bytes pairs text) p e, i))

-- ---- the head of a name

module _ (ws pairs : List ℕ) (text : Bytes) (ask at : ℕ) (here : at < length ws) where
  pub name-leaf : get_or ws at 0 < name_count pairs → unless_judged ask (sound_name (name_bytes pairs text (get_or ws at 0))) ≡ true
      → {r : OwnScan} → r ≡ Leaf (at + 1) → Scanned ws pairs text ask (worded Name (read_below (name_count pairs) ws at)) (Ok r)
  unfolding head_sound words_sound ◌and◌
  name-leaf b s d = scanned-leaf ws pairs text ask (Name _) (ap (worded Name) (below_in (name_count pairs) ws at here b)) d refl s

  pub name-poor : unless_judged ask (sound_name (name_bytes pairs text (get_or ws at 0))) ≡ false
      → {r : OwnScan} → r ≡ NotSound → Scanned ws pairs text ask (worded Name (read_below (name_count pairs) ws at)) (Ok r)
  unfolding head_sound words_sound ◌and◌
  name-poor s d =
      rw d (not_sound (λ g n e.
      let t = made_got (read_below (name_count pairs) ws at) Name e in
      let lies = below-there (name_count pairs) ws at t.reads in
      rw (t.made, lies.same) s))

  pub name-unknown : name_count pairs ≤ get_or ws at 0
      → {r : Result OwnScan Refusal} → r ≡ Err UnknownWord → Scanned ws pairs text ask (worded Name (read_below (name_count pairs) ws at)) r
  name-unknown b d = scanned-stop ws pairs text ask (ap (worded Name) (below_out (name_count pairs) ws at here b)) d
