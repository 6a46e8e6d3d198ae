-- At each place that a visit list gives, the words hold the type that is listed there.
use Rattle.std.specs.Prelude.{Ok, Err, Result}
use Prim.Native.Nat.{ℕ, zero, suc, ◌+◌, ◌≤◌, ◌<◌}
use mathlib.Core.Path.{◌≡◌, refl, ap, sym, ◌∙◌, subst}
use mathlib.Core.Logic.{⊎_elim}
use mathlib.Core.Bool.{Bool, true, false}
use mathlib.Core.List.Memᴰ
use mathlib.Core.List.{List, [], ◌∷◌, ◌++◌, Memᴰ}
use native.Mathlib.Decide.{ℕ_discrete}
use native.Mathlib.Omega.{arith}
use lib.ListN.{length, length-map}
use Rattle.rast.specs.Bytes.{Bytes}
use Rattle.rast.specs.Tree.{Ty, Tys, TSynonym, nil, cons}
use Rattle.rast.specs.Declaration.{Declaration}
use Rattle.encoding.specs.Reading.{Reading, got, stop}
use Rattle.encoding.specs.Tables.{check_tables, name_bytes, name_count}
use Rattle.encoding.specs.Heads.{read_head}
use Rattle.encoding.specs.HeadWords.{kids}
use Rattle.encoding.specs.Refusals.{pick}
use Rattle.encoding.specs.Forms.{present}
use Rattle.encoding.specs.Types.{read_types, read_node, read_type, type_at, type_of}
use Rattle.encoding.specs.Declarations.{declaration_at, declaration_of}
use Rattle.encoding.proofs.Tables.{impossible}
use Rattle.encoding.proofs.Answers.{given-whole}
use Rattle.encoding.proofs.Types.{bind-got, made₂-got, node_of, type-lies}
use Rattle.encoding.proofs.TypeKinds.{kind, type-kind}
use Rattle.encoding.proofs.Inside.{head-lies}
use Rattle.tree_words.specs.Encode.{token_word, words}
use Rattle.tree_words.specs.Places.{Place, place}
use Rattle.tree_words.proofs.Nodes.{node-below, one-read}
use Rattle.tree_words.proofs.Renaming.{type-words}
use Rattle.accepted_types.proofs.Accepted.{type-here, synonym-head}
use Rattle.encoding.specs.declared.Refusal.{Refusal}
use Rattle.declaration_walk.specs.declared.Walk.{Walk}
use Rattle.declaration_walk.specs.declared.Next.{Next}
use Rattle.declaration_walk.specs.declared.Next.TheVariants.{OwnWords, TypeDue, Ended}
use Rattle.declaration_walk.specs.declared.Role.{Role}
use Rattle.declaration_walk.specs.Pieces.{Piece, type, type_piece}
use Rattle.declaration_walk.specs.Walks.{left_at, moved, Stepped, Opening, opened, read_opening, started}
use Rattle.declaration_walk.proofs.Steps.{own-step, due-step, end_step, halt-step}
use Rattle.declaration_walk.proofs.NextSteps.{next-step}
use Rattle.declaration_walk.proofs.Behind.{behind-got}
use Rattle.visits.specs.Visited.{is_entered, visited, visited_from, visited_all, visited_pieces, visited_declaration}
use Rattle.visits.proofs.Lists.{visited-synonym, visited-node}
use Rattle.visits.proofs.Passes.{types-words}
use Rattle.visits.proofs.Entering.{visited-behind, entered-left, not-begun-read}

-- the type of the place is read there, to the last of the words that it takes
abbrev pub Holding : List ℕ → List ℕ → Bytes → Place Bytes → Type 0
Holding ws pairs text x = type_at ws pairs text x.at ≡ got x.tpe (x.at + words x.tpe)

module _ (ws pairs : List ℕ) (text : Bytes) (x : Place Bytes) where
  -- ---- types

  -- if x is among the types visited, it is held
  abbrev Held : List (Place Bytes) → Type 0
  Held l = Memᴰ x l → Holding ws pairs text x

  none-held : Held []
  none-held i = absurd (Memᴰ.not-nil i)

  both-held : (l m : List (Place Bytes)) → Held l → Held m → Held (l ++ m)
  both-held l m h k i = ⊎_elim h k (Memᴰ.append_cases l i)

  -- a type's own place is where it was read, and the others are behind its head
  from-held : (p : ℕ) {t : Ty Bytes} {n : ℕ} → type_at ws pairs text p ≡ got t n
      → ((k q : ℕ) (ts : Tys Bytes) (m : ℕ) → p < q → read_types (type_at ws pairs text) k q ≡ got ts m → Held (visited_all q ts)) → Held (visited_from p t)
  unfolding read_type read_node
  from-held p {t} {n} e below = go (ℕ_discrete (kind t) 23)
    where
      here : x ≡ place p t → Holding ws pairs text x
      here d = subst (Holding ws pairs text) (sym d) (e ∙ ap (got t) (type-words ws pairs text p e))

      behind : (k q : ℕ) {ts : Tys Bytes} {m : ℕ} → p < q → read_types (type_at ws pairs text) k q ≡ got ts m → visited_from p t ≡ place p t ∷ visited_all q ts → Held (visited_from p t)
      behind k q {ts} {m} l r d i = ⊎_elim here (below k q ts m l r) (Memᴰ.cases_cons (rw d at i))

      go : Dec (kind t ≡ 23) → Held (visited_from p t)
      go (yes k) =
          let m = made₂-got (type_at ws pairs text (p + 1)) (type_at ws pairs text) TSynonym (synonym-head ws pairs text p e (sym (type-kind ws pairs text p e) ∙ k)) in
          behind 1 (p + 1) (omega arith) (one-read (type_at ws pairs text) (p + 1) m.reads) (visited-synonym p m.left m.right m.made)
      go (no k) =
          let h = bind-got (read_head (name_count pairs) ws p) _ e in
          let b = node-below ws (name_bytes pairs text) (type_at ws pairs text) h.value h.end (node_of ws pairs text p e h.first) in
          let w = sym (types-words ws pairs text (kids h.value) h.end b.reads) ∙ type-words ws pairs text p e in
          behind (kids h.value) h.end (head-lies (name_count pairs) ws p h.first).starts b.reads (visited-node p h.end b.node k w)

  -- types one behind the other
  types-held : (k p : ℕ) {ts : Tys Bytes} {n : ℕ} → ((q : ℕ) (t : Ty Bytes) (m : ℕ) → p ≤ q → type_at ws pairs text q ≡ got t m → Held (visited_from q t))
      → read_types (type_at ws pairs text) k p ≡ got ts n → Held (visited_all p ts)
  unfolding read_types visited_from
  types-held zero p {ts} each e = let z : ts ≡ nil = cc in rw z none-held
  types-held (suc k) p each e =
      let f = made₂-got (type_at ws pairs text p) (read_types (type_at ws pairs text) k) cons e in
      let w = type-words ws pairs text p f.reads in
      rw f.made
      (both-held (visited_from p f.left) (visited_all (p + words f.left) f.right)
      (each p f.left f.middle (omega arith) f.reads)
      (rw w at (types-held k f.middle (λ q t m l. each q t m (omega arith)) f.reads₂)))

  -- a type from p on, where at most m words are left
  words-held : (m p : ℕ) {t : Ty Bytes} {n : ℕ} → length ws ≤ p + m → type_at ws pairs text p ≡ got t n → Held (visited_from p t)
  words-held zero p h e = let l = type-here ws pairs text p e in impossible (omega arith)
  words-held (suc m) p h e = from-held p e (λ k q ts n l. types-held k q (λ r t j b. words-held m r (omega arith)))

  here-held : (p : ℕ) {t : Ty Bytes} {n : ℕ} → type_at ws pairs text p ≡ got t n → Held (visited_from p t)
  here-held p = words-held (length ws) p (omega arith)

  -- each type that is visited in a type that was read is held where it is listed
  pub type-held : (q : Place Bytes) {n : ℕ} → type_at ws pairs text q.at ≡ got q.tpe n → Memᴰ x (visited q) → Holding ws pairs text x
  unfolding visited
  type-held q = here-held q.at

  -- ---- declarations

  -- a type, and what is behind it
  piece-held : (a : Role) (p : ℕ) (t : Ty Bytes) (qs : List (Piece Bytes)) {ps : List (Piece Bytes)} {n : ℕ} → ps ≡ type a t ∷ qs → type_at ws pairs text p ≡ got t n → Held (visited_pieces is_entered n qs) → Held (visited_pieces is_entered p ps)
  unfolding visited_pieces
  piece-held a p t qs g e h = rw g (both-held (pick (is_entered a) (visited_from p t) []) (visited_pieces is_entered (p + words t) qs) (go (is_entered a)) (rw (type-words ws pairs text p e) at h))
    where
      go : (b : Bool) → Held (pick b (visited_from p t) [])
      go true = here-held p e
      go false = none-held

  -- what is left to a walk, by its next step
  step-held : (w : Walk) {ps : List (Piece Bytes)} {n : ℕ} → left_at ws pairs text w ≡ got ps n
      → ((v : Walk) (qs : List (Piece Bytes)) → w.place < v.place → v.place ≤ length ws → left_at ws pairs text v ≡ got qs n → Held (visited_pieces is_entered v.place qs))
      → (s : Result Next Refusal) → Stepped (name_count pairs) ws w s → Held (visited_pieces is_entered w.place ps)
  unfolding visited_pieces
  step-held w e again (Ok (OwnWords v)) s =
      let k = own-step (name_count pairs) ws (name_bytes pairs text) (type_at ws pairs text) w s in
      let b = behind-got _ (left_at ws pairs text v) (sym k.reads ∙ e) in
      rw (visited-behind is_entered (name_bytes pairs text) k.tokens b.left w.place v.place b.parts k.end)
      (again v b.left k.further (omega (arith, k.run.ends, k.end, length-map k.tokens token_word)) b.reads)
  step-held w e again (Ok (TypeDue a v)) s =
      let k = due-step (name_count pairs) ws (name_bytes pairs text) (type_at ws pairs text) w s in
      let t = bind-got (type_at ws pairs text w.place) _ (sym k.reads ∙ e) in
      let b = behind-got (type_piece a t.value) (left_at ws pairs text (moved v t.end)) t.rest in
      let l = type-lies ws pairs text w.place (omega (arith, type-here ws pairs text w.place t.first)) t.first in
      piece-held a w.place t.value b.left b.parts t.first (again (moved v t.end) b.left l.starts l.ends b.reads)
  step-held w {ps} e again (Ok Ended) s =
      let k = end_step (name_count pairs) ws (name_bytes pairs text) (type_at ws pairs text) w s in
      let z : ps ≡ [] = cc in
      rw z none-held
  step-held w e again (Err r) s = let k = halt-step (name_count pairs) ws (name_bytes pairs text) (type_at ws pairs text) w s in impossible (cc)

  -- what is left to a walk, where at most m words are left
  left-held : (m : ℕ) (w : Walk) {ps : List (Piece Bytes)} {n : ℕ} → length ws ≤ w.place + m → left_at ws pairs text w ≡ got ps n → Held (visited_pieces is_entered w.place ps)
  left-held zero w h e = let s = next-step (name_count pairs) ws w in step-held w e (λ v qs l k d. impossible (omega arith)) s.next s.steps
  left-held (suc m) w h e = let s = next-step (name_count pairs) ws w in step-held w e (λ v qs l k d. left-held m v (omega arith) d) s.next s.steps

  -- and in a declaration that was read
  pub declaration-held : {d : Declaration Bytes} {n : ℕ} → declaration_at ws pairs text 0 ≡ got d n → Memᴰ x (visited_declaration d) → Holding ws pairs text x
  declaration-held {d} {n} e = go (read_opening present (name_count pairs) ws 0) refl
    where
      go : (y : Reading Opening) → read_opening present (name_count pairs) ws 0 ≡ y → Held (visited_declaration d)
      go (got o k) h =
          let l = entered-left ws pairs text e h in
          rw l.list at (left-held (length ws) (opened o k) (omega arith) l.reads)
      go (stop r) h = absurd (not-begun-read ws pairs text {k = r} (ap started (sym h)) refl (record { value = d; end = n; reads = e }))

-- ---- what an encoding holds

module _ (ws pairs : List ℕ) (text : Bytes) {x : Place Bytes} where
  -- at each place of a type's visit list the words hold the type that is listed there
  pub type-visits-hold : {t : Ty Bytes} → type_of ws pairs text ≡ Ok t → Memᴰ x (visited (place 0 t)) → Holding ws pairs text x
  unfolding type_of
  type-visits-hold {t} e m = type-held ws pairs text x (place 0 t) (given-whole (check_tables ws pairs text) (length ws) (type_at ws pairs text 0) e).1 m

  -- and at each place of a declaration's
  pub declaration-visits-hold : {d : Declaration Bytes} → declaration_of ws pairs text ≡ Ok d → Memᴰ x (visited_declaration d) → Holding ws pairs text x
  unfolding declaration_of
  declaration-visits-hold e m = declaration-held ws pairs text x (given-whole (check_tables ws pairs text) (length ws) (declaration_at ws pairs text 0) e).1 m
