-- What the visitor goes through of a declaration that was accepted, by a walk over its words.
use Rattle.std.specs.Prelude.{Ok, Err, Result}
use Prim.Native.Nat.{ℕ, suc, ◌+◌, ◌≤◌, ◌<◌}
use mathlib.Core.Path.{◌≡◌, refl, ap, sym, ◌∙◌, subst}
use mathlib.Core.Bool.{Bool, true, false}
use mathlib.Core.List.{List, [], ◌∷◌, ◌++◌, map, append-nil}
use native.Mathlib.Omega.{arith}
use native.Mathlib.Nat.{add-zero}
use lib.ListN.{length, length-map}
use Rattle.rast.specs.Bytes.{Bytes}
use Rattle.rast.specs.Tree.{Ty, nil, cons}
use Rattle.rast.specs.Declaration.{Fields, NamedFields, NamelessFields, Declaration}
use Rattle.buffer.proofs.Laws.{wrote_nothing, wrote_then, wrote_as, wrote_kept}
use Rattle.encoding.specs.declared.Refusal.{Refusal}
use Rattle.encoding.specs.Words.{max_words}
use Rattle.encoding.specs.Refusals.{pick}
use Rattle.encoding.specs.Reading.{got}
use Rattle.encoding.specs.Forms.{present}
use Rattle.encoding.specs.Scans.{ended}
use Rattle.encoding.specs.Tables.{name_bytes, name_count}
use Rattle.encoding.specs.Types.{type_at}
use Rattle.encoding.specs.Declarations.{declaration_at}
use Rattle.encoding.proofs.Tables.{impossible}
use Rattle.encoding.proofs.Types.{bind-got, type-lies}
use Rattle.tree_words.specs.Encode.{Token, token_word, words}
use Rattle.tree_words.specs.Tokens.{renamed_token}
use Rattle.tree_words.proofs.Renaming.{type-words}
use Rattle.tree_words.proofs.Nodes.{one-read}
use Rattle.accepted_types.specs.declared.Spot.{Spot}
use Rattle.accepted_types.specs.Accepted.{Readable, EndsAt}
use Rattle.accepted_types.proofs.Skipping.{first_of, none_of}
use Rattle.declaration_walk.specs.declared.Role.{Role}
use Rattle.declaration_walk.specs.declared.Walk.{Walk}
use Rattle.declaration_walk.specs.declared.Next.TheVariants.{OwnWords, TypeDue, Ended}
use Rattle.declaration_walk.specs.Pieces.{Piece, type, own_pieces, runs, counted, type_piece, field_pieces, nameless_pieces, fields_pieces}
use Rattle.declaration_walk.specs.Walks.{left_at, moved, in_field, FieldNext, field_type, past_field, Stepped, type-due, end, Opening, opened, read_opening, started}
use Rattle.declaration_walk.proofs.Steps.{own-step, due-step, end_step, halt-step, field-opens, fields-left}
use Rattle.declaration_walk.proofs.OpeningRuns.{opening-run}
use Rattle.declaration_walk.proofs.Passes.{BegunAt, not-begun}
use Rattle.declaration_walk.proofs.Behind.{behind-got, whole-left}
use Rattle.visits.specs.Visited.{is_entered, visited_from, visited_all, visited_pieces, visited_declaration, positions}
use Rattle.accept_declaration.specs.declared.Whole.TheVariants.{ADeclaration}
use Rattle.visits.specs.Passes.{TypePassed, Ahead, Going, Done, nothing, fields_alone, EntersField, Entered, AllVisited, TypesDue, Visited}
use Rattle.visits.proofs.Lists.{positions-append}

module _ {N : Type 0} (enters : Role → Bool) where
  -- own words are passed over
  visited-owned : (ks : List (Token N)) (qs : List (Piece N)) (p : ℕ) → visited_pieces enters p (own_pieces ks ++ qs) ≡ visited_pieces enters (p + length ks) qs
  unfolding visited_pieces
  visited-owned [] qs p = rw (add-zero p)
  visited-owned (k ∷ ks) qs p =
      let e : p + 1 + length ks ≡ p + suc (length ks) = omega arith in
      visited-owned ks qs (p + 1) ∙ ap (λ i. visited_pieces enters i qs) e

  -- behind own words that end at n
  pub visited-behind : (nm : ℕ → N) (ks : List (Token ℕ)) (qs : List (Piece N)) (p n : ℕ) {ps : List (Piece N)} → ps ≡ own_pieces (map (renamed_token nm) ks) ++ qs → n ≡ p + length ks
      → visited_pieces enters p ps ≡ visited_pieces enters n qs
  visited-behind nm ks qs p n e d =
      ap (visited_pieces enters p) e ∙ visited-owned (map (renamed_token nm) ks) qs p
      ∙ ap (λ i. visited_pieces enters i qs) (let z : p + length (map (renamed_token nm) ks) ≡ n = omega (arith, d, length-map ks (renamed_token nm)) in z)

  -- a list of fields that are not entered
  module _ (a : Role) (z : enters a ≡ false) where
    skipped-runs : {A : Type 0} (f : A → List (Piece N)) → ((x : A) (qs : List (Piece N)) → ((q : ℕ) → visited_pieces enters q qs ≡ []) → (p : ℕ) → visited_pieces enters p (f x ++ qs) ≡ [])
        → (xs : List A) (p : ℕ) → visited_pieces enters p (runs f xs) ≡ []
    unfolding runs visited_pieces
    skipped-runs f h [] p = refl
    skipped-runs f h (x ∷ xs) p = h x (runs f xs) (skipped-runs f h xs) p

    pub skipped-fields : (fs : Fields N) (p : ℕ) → visited_pieces enters p (fields_pieces a fs) ≡ []
    unfolding visited_pieces fields_pieces field_pieces nameless_pieces counted
    skipped-fields (NamedFields xs) p = skipped-runs (field_pieces a) (λ x qs g q. rw z (g (q + 1 + 1 + words x.formal.tpe))) xs (p + 1 + 1)
    skipped-fields (NamelessFields xs) p = skipped-runs (nameless_pieces a) (λ x qs g q. rw z (g (q + 1 + words x.tpe))) xs (p + 1 + 1)

-- ---- a type that is passed

-- the one type that is due was accepted
pub due-one : (ws pairs : List ℕ) (text : Bytes) (at : ℕ) {pos : ℕ} → TypesDue ws pairs text at 1 pos → Readable (type_at ws pairs text at)
due-one ws pairs text at d =
    let f = first_of ws pairs text 1 at (omega arith) d.there.reads in
    record { value = f.left; end = f.middle; reads = f.reads }

module _ (ws pairs : List ℕ) (text : Bytes) (a : Role) (at : ℕ) where
  pub passed-entered : is_entered a ≡ true → {o o' : List ℕ} {pos : ℕ} {s : Spot} → Visited ws pairs text at 1 o pos o' s → TypePassed ws pairs text a at o pos o' s
  unfolding visited_from
  passed-entered e {o} {o'} {pos} {s} v =
      let f = first_of ws pairs text 1 at (omega arith) v.reads in
      let n = none_of (type_at ws pairs text) 0 f.middle refl f.reads₂ in
      let one : visited_all at v.types ≡ visited_from at f.left = ap (visited_all at) (f.made ∙ ap (cons f.left) n.0) ∙ append-nil (visited_from at f.left) in
      let shown : visited_from at f.left ≡ pick (is_entered a) (visited_from at f.left) [] = sym (ap (λ b. pick b (visited_from at f.left) []) e) in
      record { tpe = f.left; reads = f.reads ∙ ap (got f.left) n.1; wrote = wrote_as (ap positions (one ∙ shown)) v.wrote; counted = v.counted }

  pub passed_over : is_entered a ≡ false → {o : List ℕ} {pos n : ℕ} → TypesDue ws pairs text at 1 pos → EndsAt (type_at ws pairs text at) n → TypePassed ws pairs text a at o pos o (record { next = n; pos = pos })
  passed_over e {o} {pos} d t =
      let l = type-lies ws pairs text at d.inside t.reads in
      let none : [] ≡ positions (pick (is_entered a) (visited_from at t.value) []) = sym (ap (λ b. positions (pick b (visited_from at t.value) [])) e) in
      record { tpe = t.value; reads = t.reads; wrote = wrote_as none (wrote_nothing o pos); counted = omega (arith, d.counted, l.starts) }

module _ (ws pairs : List ℕ) (text : Bytes) where
  -- ---- the walk that the visitor takes

  pub record EnteredLeft (d : Declaration Bytes) (w : Walk) : Type 0 where
    pub left : List (Piece Bytes)
    pub end : ℕ
    pub reads : left_at ws pairs text w ≡ got left end
    pub list : visited_pieces is_entered w.place left ≡ visited_declaration d

  pub entered-left : {d : Declaration Bytes} {e : ℕ} {o : Opening} {n : ℕ} → declaration_at ws pairs text 0 ≡ got d e → read_opening present (name_count pairs) ws 0 ≡ got o n → EnteredLeft d (opened o n)
  unfolding visited_declaration
  entered-left {d} {e} {o} {n} h k =
      let all = whole-left (name_count pairs) ws (name_bytes pairs text) (type_at ws pairs text) 0 h k in
      let ends : n ≡ 0 + length o.tokens = (opening-run ws (name_count pairs) 0 o n k).1 in
      record {
        left = all.left;
        end = e;
        reads = all.reads;
        list = sym (visited-behind is_entered (name_bytes pairs text) o.tokens all.left 0 n all.parts ends);
      }

  -- the visitor's walk was accepted
  pub entered-ahead : {w : Walk} → length ws ≤ max_words → Readable (declaration_at ws pairs text 0) → BegunAt ws pairs text w → Ahead ws pairs text w
  entered-ahead {w} f r b =
      let l = entered-left r.reads b.reads in
      let a : Ahead ws pairs text (opened b.opening b.end) = record { few = f; inside = omega (arith, ap Walk.place b.walk, b.inside); there = record { value = l.left; end = l.end; reads = l.reads } } in
      subst (Ahead ws pairs text) (sym b.walk) a

  pub entered_all : {w : Walk} {o o' : List ℕ} {p : ℕ} → Readable (declaration_at ws pairs text 0) → BegunAt ws pairs text w → Entered ws pairs text w o o' p → AllVisited ADeclaration ws pairs text o o' p
  entered_all {w} {o} {o'} {p} r b v = go (subst (λ (x : Walk). Entered ws pairs text x o o' p) b.walk v)
    where
      go : Entered ws pairs text (opened b.opening b.end) o o' p → AllVisited ADeclaration ws pairs text o o' p
      go u =
          let l = entered-left r.reads b.reads in
          let same : u.pieces ≡ l.left = cc (u.reads, l.reads) in
          record {
            value = r.value;
            end = r.end;
            reads = r.reads;
            wrote = wrote_as (ap positions (ap (visited_pieces is_entered b.end) same ∙ l.list)) u.wrote;
            counted = u.counted;
          }

  -- a declaration that was accepted has an opening
  pub not-begun-read : {r : Result Walk Refusal} {k : Refusal} → r ≡ started (read_opening present (name_count pairs) ws 0) → r ≡ Err k → Readable (declaration_at ws pairs text 0) → ⊥
  not-begun-read {k = k} e d r =
      let n = not-begun ws pairs text e d in
      let m : ended (declaration_at ws pairs text 0) ≡ Ok r.end = ap ended r.reads in
      impossible (cc (n, m))

  -- ---- the pass over the walk

  pub going_start : (w : Walk) (o : List ℕ) (pos : ℕ) → Ahead ws pairs text w → pos ≤ w.place → Going ws pairs text w o pos w o pos
  going_start w o pos a l = record {
    all = a.there.value;
    rest = a.there.value;
    end = a.there.end;
    reads = a.there.reads;
    left = a.there.reads;
    lays = λ o'' p'' x. x;
    few = a.few;
    inside = a.inside;
    counted = l;
    kept = refl;
  }

  module _ (w₀ : Walk) (o : List ℕ) (pos : ℕ) where
    pub record Gone (w w' : Walk) (o' : List ℕ) (p : ℕ) : Type 0 where
      pub next : Going ws pairs text w₀ o pos w' o' p
      pub further : w.place < w'.place

    pub going-own : {w w' : Walk} {o' : List ℕ} {p : ℕ} → Going ws pairs text w₀ o pos w o' p → Stepped (name_count pairs) ws w (Ok (OwnWords w')) → Gone w w' o' p
    going-own {w} {w'} {o'} {p} g s =
        let k = own-step (name_count pairs) ws (name_bytes pairs text) (type_at ws pairs text) w s in
        let b = behind-got _ (left_at ws pairs text w') (sym k.reads ∙ g.left) in
        record {
          next = record {
            all = g.all;
            rest = b.left;
            end = g.end;
            reads = g.reads;
            left = b.reads;
            lays = λ o'' p'' x. g.lays o'' p'' (wrote_as (ap positions (sym (visited-behind is_entered (name_bytes pairs text) k.tokens b.left w.place w'.place b.parts k.end))) x);
            few = g.few;
            inside = omega (arith, k.run.ends, k.end, length-map k.tokens token_word);
            counted = omega (arith, g.counted, k.further);
            kept = g.kept;
          };
          further = k.further;
        }

    -- a type is due
    record Typed (w : Walk) (a : Role) (w' : Walk) (rest : List (Piece Bytes)) (end : ℕ) : Type 0 where
      tpe : Ty Bytes
      next : ℕ
      others : List (Piece Bytes)
      here : type_at ws pairs text w.place ≡ got tpe next
      left : left_at ws pairs text (moved w' next) ≡ got others end
      parts : rest ≡ type a tpe ∷ others

    typed : {w : Walk} {a : Role} {w' : Walk} {o' : List ℕ} {p : ℕ} → (g : Going ws pairs text w₀ o pos w o' p) → Stepped (name_count pairs) ws w (Ok (TypeDue a w')) → Typed w a w' g.rest g.end
    typed {w} {a} {w'} g s =
        let k = due-step (name_count pairs) ws (name_bytes pairs text) (type_at ws pairs text) w s in
        let t = bind-got (type_at ws pairs text w.place) _ (sym k.reads ∙ g.left) in
        let b = behind-got (type_piece a t.value) (left_at ws pairs text (moved w' t.end)) t.rest in
        record { tpe = t.value; next = t.end; others = b.left; here = t.first; left = b.reads; parts = b.parts }

    pub going-due : {w : Walk} {a : Role} {w' : Walk} {o' : List ℕ} {p : ℕ} → Going ws pairs text w₀ o pos w o' p → Stepped (name_count pairs) ws w (Ok (TypeDue a w')) → TypesDue ws pairs text w.place 1 p
    going-due {w} g s =
        let t = typed g s in
        record { few = g.few; inside = g.inside; counted = g.counted; there = record { value = cons t.tpe nil; end = t.next; reads = one-read (type_at ws pairs text) w.place t.here } }

    type-list : (a : Role) (p n : ℕ) (t : Ty Bytes) (us : List (Piece Bytes)) {ps : List (Piece Bytes)} → ps ≡ type a t ∷ us → n ≡ p + words t
        → positions (visited_pieces is_entered p ps) ≡ positions (pick (is_entered a) (visited_from p t) []) ++ positions (visited_pieces is_entered n us)
    unfolding visited_pieces
    type-list a p n t us g e =
        ap (λ ps. positions (visited_pieces is_entered p ps)) g ∙ positions-append (pick (is_entered a) (visited_from p t) []) (visited_pieces is_entered (p + words t) us)
        ∙ rw e

    pub going-type : {w : Walk} {a : Role} {w' : Walk} {o' o'' : List ℕ} {p : ℕ} {spot : Spot} → Going ws pairs text w₀ o pos w o' p → Stepped (name_count pairs) ws w (Ok (TypeDue a w'))
        → TypePassed ws pairs text a w.place o' p o'' spot → Gone w (moved w' spot.next) o'' spot.pos
    going-type {w} {a} {w'} {o'} {o''} {p} {spot} g s v =
        let t = typed g s in
        let q : t.next ≡ spot.next = cc (t.here, v.reads) in
        let ts : v.tpe ≡ t.tpe = cc (t.here, v.reads) in
        let lies = type-lies ws pairs text w.place g.inside t.here in
        let list = type-list a w.place spot.next v.tpe t.others (t.parts ∙ ap (λ (x : Ty Bytes). type a x ∷ t.others) (sym ts)) (type-words ws pairs text w.place v.reads) in
        record {
          next = record {
            all = g.all;
            rest = t.others;
            end = g.end;
            reads = g.reads;
            left = subst (λ (i : ℕ). left_at ws pairs text (moved w' i) ≡ got t.others g.end) q t.left;
            lays = λ o''' p''' x. g.lays o''' p''' (wrote_as (sym list) (wrote_then v.wrote x));
            few = g.few;
            inside = omega (arith, q, lies.ends);
            counted = v.counted;
            kept = wrote_kept v.wrote ∙ g.kept;
          };
          further = omega (arith, q, lies.starts);
        }

    pub going-halt : {w : Walk} {o' : List ℕ} {p : ℕ} {r : Refusal} → Going ws pairs text w₀ o pos w o' p → Stepped (name_count pairs) ws w (Err r) → ⊥
    going-halt {w} g s = let k = halt-step (name_count pairs) ws (name_bytes pairs text) (type_at ws pairs text) w s in impossible (cc (k, g.left))

    -- a field that comes next has been accepted: its own words,
    field-own : {w : Walk} {o' : List ℕ} {p : ℕ} → Going ws pairs text w₀ o pos w o' p → FieldNext w → Gone w (in_field w (field_type w)) o' p
    field-own {w} g f = going-own g (field-opens (name_count pairs) ws (name_bytes pairs text) (type_at ws pairs text) w g.left f)

    -- its type,
    pub field-due : {w : Walk} {o' : List ℕ} {p : ℕ} → Going ws pairs text w₀ o pos w o' p → FieldNext w → TypesDue ws pairs text (field_type w) 1 p
    field-due g f = going-due (field-own g f).next (type-due (omega arith))

    -- and what follows it
    pub field_past : {w : Walk} {o' o'' : List ℕ} {p : ℕ} {spot : Spot} → Going ws pairs text w₀ o pos w o' p → EntersField w → Visited ws pairs text (field_type w) 1 o' p o'' spot
        → Gone w (past_field w spot.next) o'' spot.pos
    field_past {w} g f v =
        let n = field-own g f.0 in
        let k = going-type n.next (type-due (omega arith)) (passed-entered ws pairs text w.role (field_type w) f.1 v) in
        record { next = k.next; further = omega (arith, n.further, k.further) }

    -- the same is left, and a further walk begins here
    pub going-ahead : {w : Walk} {o' : List ℕ} {p : ℕ} → Going ws pairs text w₀ o pos w o' p → Ahead ws pairs text w
    going-ahead g = record { few = g.few; inside = g.inside; there = record { value = g.rest; end = g.end; reads = g.left } }

    -- and goes on where this one has come to
    pub going_on : {w w' : Walk} {o' o'' : List ℕ} {p q : ℕ} → Going ws pairs text w₀ o pos w o' p → Going ws pairs text w o' p w' o'' q → Going ws pairs text w₀ o pos w' o'' q
    going_on {w} g h =
        let e : h.all ≡ g.rest = cc (g.left, h.reads) in
        let d : h.end ≡ g.end = cc (g.left, h.reads) in
        record {
          all = g.all;
          rest = h.rest;
          end = g.end;
          reads = g.reads;
          left = h.left ∙ ap (got h.rest) d;
          lays = λ o''' p''' x. g.lays o''' p''' (wrote_as (ap (λ ps. positions (visited_pieces is_entered w.place ps)) e) (h.lays o''' p''' x));
          few = g.few;
          inside = h.inside;
          counted = h.counted;
          kept = h.kept ∙ g.kept;
        }

    -- nothing that is entered is left
    done-left : {w : Walk} {o' : List ℕ} {p : ℕ} → (g : Going ws pairs text w₀ o 0 w o' p) → Done w → visited_pieces is_entered w.place g.rest ≡ []
    unfolding visited_pieces
    done-left {w} g (nothing e d a f c) =
        let k = end_step (name_count pairs) ws (name_bytes pairs text) (type_at ws pairs text) w (end e d a f c) in
        let n : g.rest ≡ [] = cc (k, g.left) in
        rw n
    done-left {w} g (fields_alone {a = b} e d a z c) =
        let l = fields-left (name_count pairs) ws (name_bytes pairs text) (type_at ws pairs text) w e d a c g.left in
        ap (visited_pieces is_entered w.place) l.parts ∙ skipped-fields is_entered b z l.fields w.place

    finished : {w : Walk} {o' : List ℕ} {p : ℕ} → (g : Going ws pairs text w₀ o 0 w o' p) → visited_pieces is_entered w.place g.rest ≡ [] → Entered ws pairs text w₀ o o' p
    finished {w} {o'} {p} g n = record {
      pieces = g.all;
      end = g.end;
      reads = g.reads;
      wrote = g.lays o' p (wrote_as (sym (ap positions n)) (wrote_nothing o' p));
      counted = omega (arith, g.counted, g.inside);
    }

    pub going_done : {w : Walk} {o' : List ℕ} {p : ℕ} → Going ws pairs text w₀ o 0 w o' p → Done w → Entered ws pairs text w₀ o o' p
    going_done g d = finished g (done-left g d)

    pub going_end : {w : Walk} {o' : List ℕ} {p : ℕ} → Going ws pairs text w₀ o 0 w o' p → Stepped (name_count pairs) ws w (Ok Ended) → Entered ws pairs text w₀ o o' p
    going_end g (end e d a f c) = going_done g (nothing e d a f c)
