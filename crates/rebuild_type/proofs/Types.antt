-- Rebuilding on words is replacement in trees: a head's own words, the types below it, and then the rules.
use Rattle.std.specs.Prelude.{Some, None, Option}
use Prim.Native.Nat.{ℕ, ◌+◌, ◌-◌, ◌≤◌, ◌<◌, max, ◌*◌}
use mathlib.Core.Path.{◌≡◌, refl, ap, sym, ◌∙◌, subst}
use mathlib.Core.List.{List, [], ◌∷◌, ◌++◌, append_assoc, append-nil}
use native.Mathlib.Omega.{arith}
use lib.ListN.{length, get_or, take, drop, length-append}
use Rattle.rast.specs.Bytes.{Bytes}
use Rattle.rast.specs.Tree.{Ty, Tys, nil, cons, count}
use Rattle.encoding.specs.Reading.{Reading, got}
use Rattle.encoding.specs.Tables.{name_bytes, name_count}
use Rattle.encoding.specs.Heads.{read_head}
use Rattle.encoding.specs.HeadWords.{kids, types_below, own_end}
use Rattle.encoding.specs.Types.{read_types}
use Rattle.encoding.proofs.Tables.{impossible}
use Rattle.encoding.proofs.Inside.{head-lies}
use Rattle.encoding.proofs.HeadWords.{plain-below, plain_end}
use Rattle.buffer.proofs.Laws.{part_length, part-more}
use Rattle.encoding.proofs.Types.{types-count}
use Rattle.tree_words.specs.Encode.{tokens_all, encode, words, words_all}
use Rattle.tree_words.specs.Tokens.{encode_all}
use Rattle.tree_words.specs.Numbered.{tree_at}
use Rattle.tree_words.proofs.Nodes.{Below, First, first-type}
use Rattle.tree_words.proofs.Spans.{node-spells, encode-cons}
use Rattle.tree_words.proofs.Heads.{tree-below, Worded, tree-words}
use Rattle.tree_words.proofs.Renaming.{tree-run, encode-words, encode-all, words-some}
use Rattle.accepted_types.specs.Accepted.{Readable}
use Rattle.rebuild_spec.specs.Same.{same_by}
use Rattle.rebuild_spec.specs.Replace.{Replace, Replaces, ruled}
use Rattle.rebuild_spec.specs.Laying.{depth, deepest, peak, peaks}
use Rattle.rebuild_spec.specs.Rules.{Rule, rules_of, mapping_of}
use Rattle.rebuild_spec.proofs.Nodes.{replaces-count, replace-node, peak-node, depth-node, peak-least, depth-words}
use Rattle.rebuild_rules.specs.Table.{to_words, found_from, RuleAt}
use Rattle.rebuild_rules.specs.Scans.{SpansTo, depth_of}
use Rattle.rebuild_rules.proofs.Tables.{rule-at, to-encoded, GivesWay, ways, stays as keeps, found-trees}
use Rattle.rebuild_type.specs.Laid.{Grown, GivesTo, given as givenTo, too_long, Settles, stays, gives, Rebuilds, rebuilt, full, rule_list, mapping, Ruled, TypeRebuilds, TypesRebuild, WordRebuilds, PartsRebuild, parts, no_parts}
use Rattle.rebuild_type.proofs.Growing.{grown-then, grown-words, grown-first, grown-over, grown-nothing}

-- ---- a finished type stays or gives way

-- what the rules make of the finished type u, which lies between `start` and `end`
pub data Ends (u : Ty ℕ) (limit : ℕ) (o : List ℕ) (start : ℕ) (o' : List ℕ) : Option (ℕ × ℕ) → Type 0 where
  settled : {q d : ℕ} → q ≤ limit → Grown o start (encode u) o' q → d ≡ depth u → Ends u limit o start o' (Some (q, d))
  overfull : limit < start + length (encode u) → length o' ≡ length o → Ends u limit o start o' None

module _ (rules pairs : List ℕ) (text : Bytes) (table : List ℕ) (k : ℕ) (t : Ruled rules pairs text table k) where
  found-tree : (u : Ty ℕ) → GivesWay (name_bytes pairs text) rules pairs table k u (mapping rules pairs text u) (found_from (name_bytes pairs text) rules table 0 k (encode u))
  unfolding mapping mapping_of
  found-tree u =
      let z : 0 + length (rule_list (rules_of rules pairs text)) ≡ k = omega (arith, t.many) in
      subst (λ n. GivesWay (name_bytes pairs text) rules pairs table n u (ruled (same_by (name_bytes pairs text)) (rule_list (rules_of rules pairs text)) u) (found_from (name_bytes pairs text) rules table 0 k (encode u))) z
      (subst (λ n. GivesWay (name_bytes pairs text) rules pairs table (0 + length (rule_list (rules_of rules pairs text))) u (ruled (same_by (name_bytes pairs text)) (rule_list (rules_of rules pairs text)) u) (found_from (name_bytes pairs text) rules table 0 n (encode u))) t.many
      (found-trees (name_bytes pairs text) rules pairs table 0 u (rule_list (rules_of rules pairs text)) t.tabled))

  -- where the to of a rule stands
  pub to-spans : (i : ℕ) → i < k → SpansTo (tree_at rules pairs (get_or table (4 * i + 1) 0)) (get_or table (4 * i + 2) 0)
  to-spans i h =
      let a = rule-at rules pairs table 0 (rule_list (rules_of rules pairs text)) t.tabled i (omega arith) (omega (arith, t.many)) in
      record { tree = a.0.1; reads = a.1.reads }

  -- the finished type u was laid down in o₀ from `start` on, and o is what the buffer holds then
  pub settle-ends : (u : Ty ℕ) {limit start end deep : ℕ} {o₀ o o' : List ℕ} {r : Option (ℕ × ℕ)} → end ≤ limit → Grown o₀ start (encode u) o end → deep ≡ depth u
      → Settles rules pairs table (found_from (name_bytes pairs text) rules table 0 k (take (end - start) (drop start o))) limit o start end deep o' r
      → Ends (mapping rules pairs text u) limit o₀ start o' r
  unfolding depth_of
  settle-ends u {limit} {start} {end} {deep} {o₀} {o} {o'} {r} h g d s =
      go (found-tree u) (subst (λ b. Settles rules pairs table (found_from (name_bytes pairs text) rules table 0 k b) limit o start end deep o' r) (grown-words g) s)
    where
      go : {f : Option ℕ} {s : Option (ℕ × ℕ)} → GivesWay (name_bytes pairs text) rules pairs table k u (mapping rules pairs text u) f → Settles rules pairs table f limit o start end deep o' s → Ends (mapping rules pairs text u) limit o₀ start o' s
      go (keeps e) (stays c b) = settled h (rw (e, b) g) (d ∙ ap depth (sym e))
      go (keeps e) (gives c m) = impossible (cc)
      go (ways l a e) (stays c b) = impossible (cc)
      go (ways {j = j} l a e) (gives {i = i} {r = s} c m) = let z : j ≡ i = cc in given-ends a e (subst (λ x. GivesTo rules pairs table x limit o start o' s) (sym z) m)
        where
          given-ends : {j : ℕ} {r : Rule} {s : Option (ℕ × ℕ)} → RuleAt rules pairs table j r → mapping rules pairs text u ≡ r.1 → GivesTo rules pairs table j limit o start o' s → Ends (mapping rules pairs text u) limit o₀ start o' s
          given-ends {j} a e (givenTo n m d) = settled n (rw e (grown-over g (rw (to-encoded rules pairs table j a) at m))) (d ∙ ap depth_of a.reads ∙ ap depth (sym e))
          given-ends {j} a e (too_long n m) =
              let b : to_words rules table j ≡ encode (mapping rules pairs text u) = to-encoded rules pairs table j a ∙ ap encode (sym e) in
              overfull (rw b at n) (m ∙ g.kept)

-- ---- what the answers say

pub record Came {A : Type 0} (code : A → List ℕ) (top deep : A → ℕ) (limit : ℕ) (o : List ℕ) (p : ℕ) (x : Reading A) (o' : List ℕ) (n q d : ℕ) : Type 0 where
  pub value : A
  pub reads : x ≡ got value n
  pub fits : p + top value ≤ limit
  pub within : q ≤ limit
  pub grown : Grown o p (code value) o' q
  pub deeps : d ≡ deep value

pub came : {A : Type 0} {code : A → List ℕ} {top deep : A → ℕ} {limit : ℕ} {o : List ℕ} {p : ℕ} {x : Reading A} {o' : List ℕ} {r : Option (ℕ × ℕ × ℕ)} {n q d : ℕ}
    → Rebuilds code top deep limit o p x o' r → r ≡ Some (n, q, d) → Came code top deep limit o p x o' n q d
came {code = code} {top} {deep} {limit} {o} {p} {x} {o'} {n = n} {q = q} {d = d} k e = go (subst (Rebuilds code top deep limit o p x o') e k)
  where
    go : Rebuilds code top deep limit o p x o' (Some (n, q, d)) → Came code top deep limit o p x o' n q d
    go (rebuilt {a = a} e f w g c) = record { value = a; reads = e; fits = f; within = w; grown = g; deeps = c }

pub filled : {A : Type 0} {code : A → List ℕ} {top deep : A → ℕ} {limit : ℕ} {o : List ℕ} {p : ℕ} {x : Reading A} {o' : List ℕ} {r : Option (ℕ × ℕ × ℕ)} {a : A} {n : ℕ}
    → Rebuilds code top deep limit o p x o' r → r ≡ None → x ≡ got a n → (limit < p + top a) × (length o' ≡ length o)
filled {code = code} {top} {deep} {limit} {o} {p} {x} {o'} {a = a} k e d = go (subst (Rebuilds code top deep limit o p x o') e k)
  where
    go : Rebuilds code top deep limit o p x o' None → (limit < p + top a) × (length o' ≡ length o)
    go (full {a = b} c h l) = let i : b ≡ a = cc in (rw (ap top i) at h, l)

-- ---- a type, by its head

module _ (ws pairs : List ℕ) (at : ℕ) (m : Ty ℕ → Ty ℕ) {t : Ty ℕ} {n : ℕ} (e : tree_at ws pairs at ≡ got t n) {q : ℕ} (f : q ≡ own_end ws at) where
  abbrev here : Worded ws pairs at e
  here = tree-words ws pairs at e

  begins : read_head (name_count pairs) ws at ≡ got here.head q
  begins = here.reads ∙ ap (got here.head) (sym f)

  abbrev own : List ℕ
  own = take (q - at) (drop at ws)

  pub inner : Below ws (λ x. x) (tree_at ws pairs) here.head q t n
  inner = tree-below ws pairs at e begins

  pub own-fits : (at < q) × (q ≤ length ws)
  own-fits = let l = head-lies (name_count pairs) ws at begins in (l.starts, l.ends)

  own-length : length own ≡ q - at
  own-length = part_length ws at (q - at) (omega (arith, own-fits.0, own-fits.1))

  counts : count inner.types ≡ kids here.head
  counts = types-count (tree_at ws pairs) (kids here.head) q inner.reads

  types-below : {k : ℕ} → k ≡ types_below ws at → read_types (tree_at ws pairs) k q ≡ got inner.types n
  types-below g = rw (g ∙ here.many) inner.reads

  pub below-reads : {k : ℕ} → k ≡ types_below ws at → Readable (read_types (tree_at ws pairs) k q)
  below-reads g = record { value = inner.types; end = n; reads = types-below g }

  words-split : words t ≡ (q - at) + words_all inner.types
  words-split =
      let s = node-spells (name_count pairs) ws at begins inner.node counts in
      omega (arith, ap length s, length-append own (encode_all inner.types), own-length, encode-words t, encode-all inner.types)

  peak-split : peak m t ≡ max ((q - at) + peaks m inner.types) (words (Replace m t))
  peak-split = peak-node m (q - at) inner.node words-split

  abbrev pub built : Ty ℕ
  built = (replace-node m inner.node).built

  built-spells : encode built ≡ own ++ encode_all (Replaces m inner.types)
  built-spells = node-spells (name_count pairs) ws at begins (replace-node m inner.node).node (replaces-count m inner.types ∙ counts)

  built-deep : depth built ≡ 1 + deepest (Replaces m inner.types)
  built-deep = depth-node (replace-node m inner.node).node

  -- the own words do not fit
  own-over : {limit p : ℕ} {o o' : List ℕ} → limit < p + length own → length o' ≡ length o → TypeRebuilds m limit o p (tree_at ws pairs at) o' None
  own-over {limit} {p} h k = let g : limit < p + peak m t = omega (arith, h, own-length, peak-split) in full e g k

  -- the types below do not fit
  below-full : {k limit p p₁ : ℕ} {o o₁ o₂ : List ℕ} {r : Option (ℕ × ℕ × ℕ)} → k ≡ types_below ws at → Grown o p own o₁ p₁ → TypesRebuild m limit o₁ p₁ (read_types (tree_at ws pairs) k q) o₂ r → r ≡ None
      → TypeRebuilds m limit o p (tree_at ws pairs at) o₂ None
  below-full {limit = limit} {p} {p₁} c g k d =
      let b = filled k d (types-below c) in
      let s : limit < p + peak m t = omega (arith, b.0, g.next, own-length, peak-split) in
      full e s (b.1 ∙ g.kept)

  -- the type is finished
  pub record Finished (limit p : ℕ) (o o₂ : List ℕ) (n' q' d : ℕ) : Type 0 where
    pub grown : Grown o p (encode built) o₂ q'
    pub deeps : d + 1 ≡ depth built
    pub within : q' ≤ limit
    pub top : p + ((q - at) + peaks m inner.types) ≤ limit
    pub end : n' ≡ n
    pub small : d + 1 ≤ limit
    pub some : p < q'
    pub first : get_or o₂ p 0 ≡ get_or ws at 0

  finished : {k limit p p₁ n' q' d : ℕ} {o o₁ o₂ : List ℕ} {r : Option (ℕ × ℕ × ℕ)} → k ≡ types_below ws at → Grown o p own o₁ p₁ → TypesRebuild m limit o₁ p₁ (read_types (tree_at ws pairs) k q) o₂ r → r ≡ Some (n', q', d)
      → Finished limit p o o₂ n' q' d
  finished {limit = limit} {p} {p₁} {n'} {q'} {d} {o} {o₁} {o₂} h g k c =
      let b = came k c in
      let i : b.value ≡ inner.types = (let x = types-below h in let y = b.reads in cc) in
      let j : n' ≡ n = (let x = types-below h in let y = b.reads in cc) in
      let w : Grown o₁ p₁ (encode_all (Replaces m inner.types)) o₂ q' = subst (λ ts. Grown o₁ p₁ (encode_all (Replaces m ts)) o₂ q') i b.grown in
      let v : Grown o p (encode built) o₂ q' = rw built-spells (grown-then g w) in
      let z : d + 1 ≡ depth built = omega (arith, b.deeps, ap (λ ts. deepest (Replaces m ts)) i, built-deep) in
      record {
        grown = v;
        deeps = z;
        within = b.within;
        top = omega (arith, b.fits, ap (peaks m) i, g.next, own-length);
        end = j;
        small = omega (arith, z, depth-words built, encode-words built, v.next, b.within);
        some = omega (arith, words-some built, encode-words built, v.next);
        first = grown-first ws at (q - at) (encode_all (Replaces m inner.types)) (omega (arith, own-fits.0)) (omega (arith, own-fits.0, own-fits.1)) (grown-then g w);
      }

  abbrev gives-built : Replace m t ≡ m built
  gives-built = (replace-node m inner.node).gives

  pub type-done : {limit p n' q' d : ℕ} {o o₂ o₃ : List ℕ} {r : Option (ℕ × ℕ)} {q'' d'' : ℕ} → Finished limit p o o₂ n' q' d → Ends (m built) limit o p o₃ r → r ≡ Some (q'', d'')
      → TypeRebuilds m limit o p (tree_at ws pairs at) o₃ (Some (n', q'', d''))
  type-done {limit} {p} {n'} {o = o} {o₃ = o₃} {q'' = q''} {d'' = d''} k a c = go (subst (Ends (m built) limit o p o₃) c a)
    where
      go : Ends (m built) limit o p o₃ (Some (q'', d'')) → TypeRebuilds m limit o p (tree_at ws pairs at) o₃ (Some (n', q'', d''))
      go (settled w g l) =
          let s : p + peak m t ≤ limit = omega (arith, k.top, peak-split, w, g.next, encode-words (m built), ap words gives-built) in
          let c : d'' ≡ depth (Replace m t) = rw gives-built l in
          rebuilt (e ∙ ap (got t) (sym k.end)) s w (rw gives-built g) c

  pub type-over : {limit p : ℕ} {o o₃ : List ℕ} {r : Option (ℕ × ℕ)} → Ends (m built) limit o p o₃ r → r ≡ None → TypeRebuilds m limit o p (tree_at ws pairs at) o₃ None
  type-over {limit} {p} {o} {o₃} a c = go (subst (Ends (m built) limit o p o₃) c a)
    where
      go : Ends (m built) limit o p o₃ None → TypeRebuilds m limit o p (tree_at ws pairs at) o₃ None
      go (overfull w l) = let s : limit < p + peak m t = omega (arith, peak-split, w, encode-words (m built), ap words gives-built) in full e s l

-- ---- its parts, before the rules

module _ (ws pairs : List ℕ) (at : ℕ) (m : Ty ℕ → Ty ℕ) {t : Ty ℕ} {n : ℕ} (e : tree_at ws pairs at ≡ got t n) {limit p : ℕ} {o o₂ : List ℕ} where
  pub parts-over : {q : ℕ} → q ≡ own_end ws at → limit < p + length (take (q - at) (drop at ws)) → length o₂ ≡ length o → PartsRebuild m ws pairs at limit o p o₂ None
  parts-over f h l = no_parts (rw f at h) l

  pub parts_then : {q k p₁ : ℕ} {o₁ : List ℕ} {r : Option (ℕ × ℕ × ℕ)} → q ≡ own_end ws at → k ≡ types_below ws at → Grown o p (take (q - at) (drop at ws)) o₁ p₁
      → TypesRebuild m limit o₁ p₁ (read_types (tree_at ws pairs) k q) o₂ r → PartsRebuild m ws pairs at limit o p o₂ r
  parts_then f h g k = parts (rw f at g) (rw (f, h) at k)

  pub parts-full : {r : Option (ℕ × ℕ × ℕ)} → PartsRebuild m ws pairs at limit o p o₂ r → r ≡ None → TypeRebuilds m limit o p (tree_at ws pairs at) o₂ None
  parts-full (parts g k) d = below-full ws pairs at m e refl refl g k d
  parts-full (no_parts h l) d = own-over ws pairs at m e refl h l

  pub parts-finished : {r : Option (ℕ × ℕ × ℕ)} {n' q' d : ℕ} → PartsRebuild m ws pairs at limit o p o₂ r → r ≡ Some (n', q', d) → Finished ws pairs at m e refl limit p o o₂ n' q' d
  parts-finished (parts g k) d = finished ws pairs at m e refl refl g k d
  parts-finished (no_parts h l) d = impossible (cc)

-- ---- types one after the other

-- the types before `place` are rebuilt, and `left` more are to come
pub record Rebuilding (ws pairs : List ℕ) (m : Ty ℕ → Ty ℕ) (x : Reading (Tys ℕ)) (limit : ℕ) (o : List ℕ) (p : ℕ) (o' : List ℕ) (place q found left : ℕ) : Type 0 where
  pub types : Tys ℕ
  pub end : ℕ
  pub whole : x ≡ got types end
  pub rest : Tys ℕ
  pub reads : read_types (tree_at ws pairs) left place ≡ got rest end
  pub done : List ℕ
  pub split : encode_all (Replaces m types) ≡ done ++ encode_all (Replaces m rest)
  pub grown : Grown o p done o' q
  pub within : q ≤ limit
  pub top : ℕ
  pub topped : peaks m types ≡ max top (length done + peaks m rest)
  pub fits : p + top ≤ limit
  pub deeps : deepest (Replaces m types) ≡ max found (deepest (Replaces m rest))
  pub inside : place ≤ length ws

module _ (ws pairs : List ℕ) (m : Ty ℕ → Ty ℕ) (at k limit : ℕ) (o : List ℕ) (p : ℕ) where
  pub rebuilding-starts : at ≤ length ws → p ≤ limit → limit ≤ length o → Readable (read_types (tree_at ws pairs) k at) → Rebuilding ws pairs m (read_types (tree_at ws pairs) k at) limit o p o at p 0 k
  rebuilding-starts h l g r = record {
    types = r.value;
    end = r.end;
    whole = r.reads;
    rest = r.value;
    reads = r.reads;
    done = [];
    split = refl;
    grown = grown-nothing o p (omega arith);
    within = l;
    top = 0;
    topped = omega arith;
    fits = omega arith;
    deeps = omega arith;
    inside = h;
  }

  pub rebuilding-ends : {o' : List ℕ} {place q found left : ℕ} → left ≡ 0 → Rebuilding ws pairs m (read_types (tree_at ws pairs) k at) limit o p o' place q found left
      → TypesRebuild m limit o p (read_types (tree_at ws pairs) k at) o' (Some (place, q, found))
  unfolding read_types Replaces encode_all tokens_all peaks deepest
  rebuilding-ends {o'} {place} {q} {found} {left} z r =
      let e : got nil place ≡ got r.rest r.end = rw z at r.reads in
      let i : r.rest ≡ nil = cc in
      let j : r.end ≡ place = cc in
      let s : encode_all (Replaces m r.types) ≡ r.done = rw i at r.split ∙ append-nil r.done in
      let c : peaks m r.types ≡ max r.top (length r.done + 0) = rw i at r.topped in
      let d : deepest (Replaces m r.types) ≡ max found 0 = rw i at r.deeps in
      let g : p + peaks m r.types ≤ limit = omega (arith, c, r.fits, r.within, r.grown.next) in
      let c' : found ≡ deepest (Replaces m r.types) = omega (arith, d) in
      rebuilt (r.whole ∙ ap (got r.types) j) g r.within (rw s r.grown) c'

  module _ {o₁ : List ℕ} {place q found left : ℕ} (h : 0 < left) (r : Rebuilding ws pairs m (read_types (tree_at ws pairs) k at) limit o p o₁ place q found left) where
    next-type : First (tree_at ws pairs) left place r.rest r.end
    next-type = first-type (tree_at ws pairs) left place h r.reads

    pub type_reads : Readable (tree_at ws pairs place)
    type_reads = record { value = next-type.type; end = next-type.middle; reads = next-type.first }

    pub types-full : {o₂ : List ℕ} {s : Option (ℕ × ℕ × ℕ)} → TypeRebuilds m limit o₁ q (tree_at ws pairs place) o₂ s → s ≡ None → TypesRebuild m limit o p (read_types (tree_at ws pairs) k at) o₂ None
    unfolding peaks
    types-full w c =
        let f = filled w c next-type.first in
        let t : peaks m r.types ≡ max r.top (length r.done + peaks m (cons next-type.type next-type.more)) = r.topped ∙ ap (λ ts. max r.top (length r.done + peaks m ts)) next-type.made in
        let g : limit < p + peaks m r.types = omega (arith, f.0, t, r.grown.next) in
        full r.whole g (f.1 ∙ r.grown.kept)

    pub types_more : {o₂ : List ℕ} {s : Option (ℕ × ℕ × ℕ)} {n' q' d deep : ℕ} → TypeRebuilds m limit o₁ q (tree_at ws pairs place) o₂ s → s ≡ Some (n', q', d) → deep ≡ max found d
        → Rebuilding ws pairs m (read_types (tree_at ws pairs) k at) limit o p o₂ n' q' deep (left - 1)
    unfolding Replaces peaks deepest
    types_more {o₂} {s} {n'} {q'} {d} {deep} w c z =
        let b = came w c in
        let t = next-type.type in
        let us = next-type.more in
        let i : b.value ≡ t = (let x = next-type.first in let y = b.reads in cc) in
        let j : n' ≡ next-type.middle = (let x = next-type.first in let y = b.reads in cc) in
        let g : Grown o₁ q (encode (Replace m t)) o₂ q' = subst (λ v. Grown o₁ q (encode (Replace m v)) o₂ q') i b.grown in
        let sp : encode_all (Replaces m r.types) ≡ r.done ++ encode_all (Replaces m (cons t us)) = r.split ∙ ap (λ ts. r.done ++ encode_all (Replaces m ts)) next-type.made in
        let tp : peaks m r.types ≡ max r.top (length r.done + peaks m (cons t us)) = r.topped ∙ ap (λ ts. max r.top (length r.done + peaks m ts)) next-type.made in
        let dp : deepest (Replaces m r.types) ≡ max found (deepest (Replaces m (cons t us))) = r.deeps ∙ ap (λ ts. max found (deepest (Replaces m ts))) next-type.made in
        let v = tree-run ws pairs place r.inside next-type.first in
        let en = encode-words (Replace m t) in
        record {
          types = r.types;
          end = r.end;
          whole = r.whole;
          rest = us;
          reads = rw j next-type.others;
          done = r.done ++ encode (Replace m t);
          split = sp ∙ ap (λ l. r.done ++ l) (encode-cons (Replace m t) (Replaces m us)) ∙ sym (append_assoc r.done (encode (Replace m t)) (encode_all (Replaces m us)));
          grown = grown-then r.grown g;
          within = b.within;
          top = max r.top (length r.done + peak m t);
          topped = omega (arith, tp, length-append r.done (encode (Replace m t)), en, peak-least m t);
          fits = omega (arith, r.fits, b.fits, ap (peak m) i, r.grown.next);
          deeps = omega (arith, dp, z, b.deeps, ap (λ v. depth (Replace m v)) i);
          inside = omega (arith, j, v.1, v.0.ends, encode-words t);
        }

    pub types-past : {o₂ : List ℕ} {s : Option (ℕ × ℕ × ℕ)} {n' q' d : ℕ} → TypeRebuilds m limit o₁ q (tree_at ws pairs place) o₂ s → s ≡ Some (n', q', d) → place < n'
    types-past {n' = n'} w c =
        let b = came w c in
        let j : n' ≡ next-type.middle = (let x = next-type.first in let y = b.reads in cc) in
        let v = tree-run ws pairs place r.inside next-type.first in
        omega (arith, j, v.1, words-some next-type.type)

-- a plain type has no types below it
module _ (ws pairs : List ℕ) (at : ℕ) (m : Ty ℕ → Ty ℕ) {t : Ty ℕ} {n : ℕ} (e : tree_at ws pairs at ≡ got t n) (h : get_or ws at 0 < 12) where
  abbrev ends : own_end ws at ≡ at + 1
  ends = plain_end ws at h

  abbrev inside : at < own_end ws at × own_end ws at ≤ length ws
  inside = own-fits ws pairs at m e refl

  word : take (own_end ws at - at) (drop at ws) ≡ get_or ws at 0 ∷ []
  word =
      let z : own_end ws at - at ≡ 1 = omega (arith, ends) in
      rw z (part-more ws at 1 (omega (arith, inside.0, inside.1)) (omega arith))

  pub plain-parts : {limit p : ℕ} {o o₂ : List ℕ} {r : Option (ℕ × ℕ × ℕ)} → limit ≤ length o → WordRebuilds limit o p (got (get_or ws at 0) (at + 1)) o₂ r → PartsRebuild m ws pairs at limit o p o₂ r
  plain-parts {limit} {p} {o} {o₂} l (rebuilt {a = a} {n = j} {q = q} {d = d} x f w g c) =
      let i : a ≡ get_or ws at 0 = cc in
      let y : own_end ws at ≡ j = (let u = ends in cc) in
      let b : Grown o p (take (own_end ws at - at) (drop at ws)) o₂ q = rw (word, sym i) g in
      let k = rebuilding-ends ws pairs m (own_end ws at) (types_below ws at) limit o₂ q (plain-below ws at (omega (arith, h)))
      (rebuilding-starts ws pairs m (own_end ws at) (types_below ws at) limit o₂ q inside.1 w (omega (arith, l, g.kept)) (below-reads ws pairs at m e refl refl)) in
      let v : TypesRebuild m limit o₂ q (read_types (tree_at ws pairs) (types_below ws at) (own_end ws at)) o₂ (Some (j, q, d)) = rw (sym y, c) k in
      parts b v
  plain-parts l (full x f k) = no_parts (rw word f) k

encode_one : (t : Ty ℕ) → encode_all (cons t nil) ≡ encode t
unfolding encode_all tokens_all
encode_one t = encode-cons t nil ∙ append-nil (encode t)

-- one type, as a list of one
pub one-rebuilt : (ws pairs : List ℕ) (m : Ty ℕ → Ty ℕ) (at : ℕ) {limit p : ℕ} {o o' : List ℕ} {r : Option (ℕ × ℕ × ℕ)} → Readable (tree_at ws pairs at)
    → TypesRebuild m limit o p (read_types (tree_at ws pairs) 1 at) o' r → TypeRebuilds m limit o p (tree_at ws pairs at) o' r
unfolding read_types Replaces peaks deepest
one-rebuilt ws pairs m at {limit} {p} {o} {o'} v w = go w
  where
    t : Ty ℕ
    t = v.value

    whole : read_types (tree_at ws pairs) 1 at ≡ got (cons t nil) v.end
    whole = rw v.reads refl

    code : encode_all (Replaces m (cons t nil)) ≡ encode (Replace m t)
    code = encode_one (Replace m t)

    go : {r : Option (ℕ × ℕ × ℕ)} → TypesRebuild m limit o p (read_types (tree_at ws pairs) 1 at) o' r → TypeRebuilds m limit o p (tree_at ws pairs at) o' r
    go (rebuilt {a = ts} {n} {q} {d} x top within grown deep) =
        let i : ts ≡ cons t nil = (let y = whole in cc) in
        let j : n ≡ v.end = (let y = whole in cc) in
        let g : Grown o p (encode (Replace m t)) o' q = rw (ap (λ us. encode_all (Replaces m us)) i ∙ code) at grown in
        let h : p + peak m t ≤ limit = omega (arith, top, ap (peaks m) i) in
        let e : d ≡ depth (Replace m t) = omega (arith, deep, ap (λ us. deepest (Replaces m us)) i) in
        rebuilt (v.reads ∙ ap (got t) (sym j)) h within g e
    go (full {a = ts} x over kept) =
        let i : ts ≡ cons t nil = (let y = whole in cc) in
        let h : limit < p + peak m t = omega (arith, over, ap (peaks m) i, peak-least m t, encode-words (Replace m t)) in
        full v.reads h kept
