-- A tree that stands at a position, by its head and the trees below it.
use Prim.Native.Nat.{ℕ, ◌-◌, ◌≤◌, ◌<◌}
use mathlib.Core.Path.{◌≡◌, ap}
use mathlib.Core.List.{List}
use native.Mathlib.Omega.{arith}
use lib.ListN.{length, take, drop, length-append}
use Rattle.rast.specs.Tree.{Ty}
use Rattle.encoding.specs.declared.Head.{Head}
use Rattle.encoding.specs.Tables.{name_count}
use Rattle.encoding.specs.Reading.{got}
use Rattle.encoding.specs.Heads.{read_head}
use Rattle.encoding.specs.HeadWords.{kids, HeadHere, types_below, own_end}
use Rattle.encoding.specs.Types.{read_type}
use Rattle.encoding.proofs.Inside.{head-begins, head-lies}
use Rattle.encoding.proofs.HeadWords.{words-kids, words-end}
use Rattle.encoding.proofs.Types.{bind-got, node-parts, types-count}
use Rattle.tree_words.specs.Tokens.{encode_all}
use Rattle.tree_words.specs.Numbered.{tree_at}
use Rattle.tree_words.proofs.Nodes.{Below, node-below}
use Rattle.tree_words.proofs.Spans.{node-spells}
use Rattle.tree_words.proofs.Renaming.{tree-run, encode-words, encode-all, few_words}

module _ (ws pairs : List ℕ) (at : ℕ) {t : Ty ℕ} {n : ℕ} (e : tree_at ws pairs at ≡ got t n) where
  pub record Headed : Type 0 where
    pub head : Head
    pub own : ℕ
    pub reads : read_head (name_count pairs) ws at ≡ got head own

  -- a tree begins with a head
  pub tree-head : Headed
  unfolding read_type
  tree-head = let d = bind-got (read_head (name_count pairs) ws at) _ e in record { head = d.value; own = d.end; reads = d.first }

  pub tree-here : at < length ws
  tree-here = head-begins (name_count pairs) ws at tree-head.reads

  -- the trees below the head are read like the tree itself
  pub tree-below : {h : Head} {q : ℕ} → read_head (name_count pairs) ws at ≡ got h q → Below ws (λ x. x) (tree_at ws pairs) h q t n
  tree-below {h} {q} d = node-below ws (λ x. x) (tree_at ws pairs) h q (node-parts (name_count pairs) ws (λ x. x) 63 at e d)

  pub head-here : HeadHere ws at
  head-here = let h = tree-head in record { bound = name_count pairs; head = h.head; next = h.own; reads = h.reads }

  -- the words of the head say where it ends and how many types follow
  pub record Worded : Type 0 where
    pub head : Head
    pub reads : read_head (name_count pairs) ws at ≡ got head (own_end ws at)
    pub many : types_below ws at ≡ kids head

  pub tree-words : Worded
  tree-words =
      let h = tree-head in
      record { head = h.head; reads = rw (words-end (name_count pairs) ws at h.reads) h.reads; many = words-kids (name_count pairs) ws at h.reads }

  -- each of the types below takes a word at least
  pub few-below : types_below ws at ≤ length ws
  few-below =
      let h = tree-words in
      let b = tree-below h.reads in
      let l = head-lies (name_count pairs) ws at h.reads in
      let k = types-count (tree_at ws pairs) (kids h.head) (own_end ws at) b.reads in
      let own = take (own_end ws at - at) (drop at ws) in
      let s = node-spells (name_count pairs) ws at h.reads b.node k in
      let v = tree-run ws pairs at (omega (arith, tree-here)) e in
      omega (arith, h.many, k, few_words b.types, ap length s, length-append own (encode_all b.types), encode-words t, encode-all b.types, v.0.ends)
