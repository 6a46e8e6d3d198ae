-- Each step of a walk, by what is left to read before and behind it, under any names and any reader of types.
use Prim.Native.Nat.{ℕ, zero, suc, ◌+◌, ◌-◌, ◌<◌}
use mathlib.Core.Path.{◌≡◌, refl, ap, sym, ◌∙◌, subst}
use mathlib.Core.Bool.{Bool, true, false}
use mathlib.Core.List.{List, [], ◌∷◌, map}
use native.Mathlib.Omega.{arith}
use borrow.Author.Tests.{ne_eqb, eq-eqb, eqb-true, eqb-false}
use lib.Dec.{eqb}
use lib.ListN.{length, get_or}
use Rattle.rast.specs.Tree.{Ty}
use Rattle.rast.specs.Declaration.{Fields, NamedFields, NamelessFields}
use Rattle.encoding.specs.declared.Refusal.{Refusal}
use Rattle.encoding.specs.Refusals.{pick}
use Rattle.encoding.specs.Reading.{Reading, got, stop, ◌>>=◌, read_word, read_below}
use Rattle.encoding.specs.Scans.{map_reading}
use Rattle.encoding.specs.Declarations.{read_list, read_counted, visibility_of, read_visibility, read_name, read_parameter, read_formal, read_field, read_nameless_field, read_fields, read_case}
use Rattle.encoding.proofs.Tables.{impossible}
use Rattle.encoding.proofs.Types.{bind-got}
use Rattle.encoding.proofs.Inside.{There, word-there, below-there}
use Rattle.tree_words.specs.Encode.{Token, word, name, token_word}
use Rattle.tree_words.specs.Tokens.{renamed_token}
use Rattle.tree_words.specs.Runs.{Run}
use Rattle.tree_words.proofs.Runs.{run-one, run-two}
use Rattle.tree_words.proofs.Spans.{next-there}
use Rattle.declaration_walk.specs.declared.After.{After}
use Rattle.declaration_walk.specs.declared.After.TheVariants.{FieldList, CaseList, OneType, NoMore}
use Rattle.declaration_walk.specs.declared.Role.{Role}
use Rattle.declaration_walk.specs.declared.Role.TheVariants.{CaseField, Aliased}
use Rattle.declaration_walk.specs.declared.Walk.{Walk}
use Rattle.std.specs.Prelude.{Ok, Err}
use Rattle.declaration_walk.specs.declared.Next.TheVariants.{OwnWords, TypeDue, Ended}
use Rattle.declaration_walk.specs.Pieces.{Piece, own, type, visibility_word, runs, own_pieces, type_piece, counted, parameter_pieces, field_pieces, nameless_pieces, fields_pieces, case_pieces}
use Rattle.declaration_walk.specs.Walks.{ahead, ◌&◌, many, some_fields, body_of, left_of, read_entry, read_two, moved, past_type, past_alias, in_parameter, in_fields, in_cases, in_field, in_case, FieldNext, field_type, Stepped, type-due, parameter, no-parameter, fields, no_fields, cases, no_cases, alias, field, no_field, nameless, no-nameless, case, no-case, end}
use Rattle.declaration_walk.proofs.Scans.{Pair, NoPair, at_first, at_second, entry, no-entry, two, no-two}
use Rattle.declaration_walk.proofs.Ahead.{ahead-and, and_none, and_last, and_same, and-stop, many-none, item-more, many-stop, type-and, many-one, list_length}
use Rattle.encoding.specs.Forms.{plain, present}

pub visibility-word : (v : ℕ) → v < 2 → visibility_word (visibility_of v) ≡ v
unfolding visibility_word visibility_of
visibility-word zero h = refl
visibility-word (suc zero) h = refl
visibility-word (suc (suc v)) h = absurd (let z : ⊥ = omega arith in z)

-- a word that was read stands there
pub below_word : (b : ℕ) (ws : List ℕ) (p : ℕ) {x q : ℕ} → read_below b ws p ≡ got x q → There ws p x q
below_word b ws p e = next-there (below-there b ws p e)

pub one-run : (ws : List ℕ) (p : ℕ) {x q : ℕ} → There ws p x q → Run ws p (x ∷ []) × (q ≡ p + 1)
one-run ws p s = (rw s.same (run-one ws p s.here), s.next)

pub two_run : (ws : List ℕ) (p : ℕ) {x y m q : ℕ} → There ws p x m → There ws m y q → Run ws p (x ∷ y ∷ []) × (q ≡ p + 2)
two_run ws p {x} {y} {m} s t =
    let e : y ≡ get_or ws (p + 1) 0 = t.same ∙ ap (λ i. get_or ws i 0) s.next in
    (rw (s.same, e) (run-two ws p (omega (arith, s.next, t.here))), omega (arith, s.next, t.next))

module _ {N : Type 0} (bound : ℕ) (ws : List ℕ) (nm : ℕ → N) (ty : ℕ → Reading (Ty N)) where
  -- ---- what each thing reads behind its own words

  parameter-read : (a : Role) (p : ℕ) {x m q : ℕ} → Pair (read_below bound ws p) (read_word ws) x m q
      → map_reading (parameter_pieces plain a) (read_parameter present bound ws nm ty p) ≡ ahead (own (name (nm x)) ∷ own (word m) ∷ []) (many ty (type_piece a) m q)
  unfolding read_parameter read_name read_counted parameter_pieces counted ahead map_reading many
  parameter-read a p {x} {m} {q} t = rw (t.first, t.second) (go (read_list ty m q) (λ ts r e. list_length ty m q e))
    where
      go : (y : Reading (List (Ty N))) → ((ts : List (Ty N)) (r : ℕ) → y ≡ got ts r → length ts ≡ m)
          → map_reading (parameter_pieces plain a) (y >>= λ ts r. got (record { name = nm x; constraints = ts }) r) ≡ map_reading (λ qs. own (name (nm x)) ∷ own (word m) ∷ qs) (map_reading (runs (type_piece a)) y)
      go (got ts r) h = ap (λ k. got (own (name (nm x)) ∷ own (word k) ∷ runs (type_piece a) ts) r) (h ts r refl)
      go (stop r) h = refl

  pub parameter-halts : (p : ℕ) {r : Refusal} → NoPair (read_below bound ws p) (read_word ws) r → read_parameter present bound ws nm ty p ≡ stop r
  unfolding read_parameter read_name read_counted
  parameter-halts p (at_first d) = rw d
  parameter-halts p (at_second d k) = rw (d, k)

  -- a counted list, whose count is read
  counted-read : {A : Type 0} (item : ℕ → Reading A) (f : A → List (Piece N)) (p : ℕ) {n q : ℕ} → read_word ws p ≡ got n q
      → map_reading (counted f) (read_counted ws item p) ≡ ahead (own (word n) ∷ []) (many item f n q)
  unfolding read_counted counted ahead map_reading many
  counted-read {A} item f p {n} {q} e = rw e (go (read_list item n q) (λ xs r d. list_length item n q d))
    where
      go : (y : Reading (List A)) → ((xs : List A) (r : ℕ) → y ≡ got xs r → length xs ≡ n) → map_reading (counted f) y ≡ map_reading (λ qs. own (word n) ∷ qs) (map_reading (runs f) y)
      go (got xs r) h = ap (λ k. got (own (word k) ∷ runs f xs) r) (h xs r refl)
      go (stop r) h = refl

  counted-halts : {A : Type 0} (item : ℕ → Reading A) (f : A → List (Piece N)) (p : ℕ) {r : Refusal} → read_word ws p ≡ stop r
      → map_reading (counted f) (read_counted ws item p) ≡ stop r
  unfolding read_counted map_reading
  counted-halts item f p e = rw e

  -- the same behind the word k, as fields
  kind-read : {A : Type 0} (a : Role) (item : ℕ → Reading A) (f : A → List (Piece N)) (c : List A → Fields N) (k p : ℕ) {n q : ℕ}
      → ((xs : List A) → fields_pieces a (c xs) ≡ own (word k) ∷ counted f xs) → read_word ws p ≡ got n q
      → map_reading (fields_pieces a) (read_counted ws item p >>= λ xs r. got (c xs) r) ≡ ahead (own (word k) ∷ own (word n) ∷ []) (many item f n q)
  unfolding read_counted counted ahead map_reading many
  kind-read {A} a item f c k p {n} {q} h e = rw e (go (read_list item n q) (λ xs r d. list_length item n q d))
    where
      go : (y : Reading (List A)) → ((xs : List A) (r : ℕ) → y ≡ got xs r → length xs ≡ n)
          → map_reading (fields_pieces a) (y >>= λ xs r. got (c xs) r) ≡ map_reading (λ qs. own (word k) ∷ own (word n) ∷ qs) (map_reading (runs f) y)
      go (got xs r) l = ap (λ ps. got ps r) (h xs) ∙ ap (λ j. got (own (word k) ∷ own (word j) ∷ runs f xs) r) (l xs r refl)
      go (stop r) l = refl

  fields_read : (a : Role) (p : ℕ) {k n q : ℕ} → Pair (read_below 2 ws p) (read_word ws) k n q
      → map_reading (fields_pieces a) (read_fields bound ws nm ty p) ≡ ahead (own (word k) ∷ own (word n) ∷ []) (some_fields present bound ws nm ty a k n q)
  unfolding read_fields some_fields fields_pieces
  fields_read a p {k} {n} {q} t = rw t.first (go k t.second (below-there 2 ws p t.first).below)
    where
      go : (k : ℕ) → read_word ws t.middle ≡ got n q → k < 2
          → map_reading (fields_pieces a) (pick (eqb k 0) (read_counted ws (read_field bound ws nm ty) t.middle >>= λ xs r. got (NamedFields xs) r) (read_counted ws (read_nameless_field bound ws nm ty) t.middle >>= λ xs r. got (NamelessFields xs) r))
          ≡ ahead (own (word k) ∷ own (word n) ∷ []) (pick (eqb k 0) (many (read_field bound ws nm ty) (field_pieces a) n q) (many (read_nameless_field bound ws nm ty) (nameless_pieces a) n q))
      go zero e h = kind-read a (read_field bound ws nm ty) (field_pieces a) NamedFields 0 t.middle (λ xs. refl) e
      go (suc zero) e h = kind-read a (read_nameless_field bound ws nm ty) (nameless_pieces a) NamelessFields 1 t.middle (λ xs. refl) e
      go (suc (suc k)) e h = absurd (let z : ⊥ = omega arith in z)

  pub fields-halt : (p : ℕ) {r : Refusal} → NoPair (read_below 2 ws p) (read_word ws) r → read_fields bound ws nm ty p ≡ stop r
  unfolding read_fields read_counted
  fields-halt p (at_first d) = rw d
  fields-halt p {r} (at_second {a = k} d e) = rw (d, e) (go (eqb k 0))
    where
      go : (b : Bool) → ◌≡◌ {A = Reading (Fields N)} (pick b (stop r) (stop r)) (stop r)
      go true = refl
      go false = refl

  field-read : (a : Role) (p : ℕ) {v x q : ℕ} → Pair (read_below 2 ws p) (read_below bound ws) v x q
      → map_reading (field_pieces a) (read_field bound ws nm ty p) ≡ ahead (own (word v) ∷ own (name (nm x)) ∷ []) (map_reading (type_piece a) (ty q))
  unfolding read_field read_visibility read_formal read_name field_pieces ahead map_reading
  field-read a p {v} {x} {q} t = rw (t.first, t.second) (go (ty q) (visibility-word v (below-there 2 ws p t.first).below))
    where
      go : (y : Reading (Ty N)) → visibility_word (visibility_of v) ≡ v
          → map_reading (field_pieces a) ((y >>= λ t r. got (record { name = nm x; tpe = t }) r) >>= λ f r. got (record { visibility = visibility_of v; formal = f }) r)
          ≡ map_reading (λ qs. own (word v) ∷ own (name (nm x)) ∷ qs) (map_reading (type_piece a) y)
      go (got u r) e = ap (λ k. got (own (word k) ∷ own (name (nm x)) ∷ type a u ∷ []) r) e
      go (stop r) e = refl

  pub field-halts : (p : ℕ) {r : Refusal} → NoPair (read_below 2 ws p) (read_below bound ws) r → read_field bound ws nm ty p ≡ stop r
  unfolding read_field read_visibility read_formal read_name
  field-halts p (at_first d) = rw d
  field-halts p (at_second d e) = rw (d, e)

  nameless-read : (a : Role) (p : ℕ) {v q : ℕ} → read_below 2 ws p ≡ got v q
      → map_reading (nameless_pieces a) (read_nameless_field bound ws nm ty p) ≡ ahead (own (word v) ∷ []) (map_reading (type_piece a) (ty q))
  unfolding read_nameless_field read_visibility nameless_pieces ahead map_reading
  nameless-read a p {v} {q} e = rw e (go (ty q) (visibility-word v (below-there 2 ws p e).below))
    where
      go : (y : Reading (Ty N)) → visibility_word (visibility_of v) ≡ v
          → map_reading (nameless_pieces a) (y >>= λ t r. got (record { visibility = visibility_of v; tpe = t }) r) ≡ map_reading (λ qs. own (word v) ∷ qs) (map_reading (type_piece a) y)
      go (got u r) d = ap (λ k. got (own (word k) ∷ type a u ∷ []) r) d
      go (stop r) d = refl

  pub nameless-halts : (p : ℕ) {r : Refusal} → read_below 2 ws p ≡ stop r → read_nameless_field bound ws nm ty p ≡ stop r
  unfolding read_nameless_field read_visibility
  nameless-halts p e = rw e

  case-read : (p : ℕ) {d x q : ℕ} → Pair (read_below bound ws p) (read_below bound ws) d x q
      → map_reading case_pieces (read_case bound ws nm ty p) ≡ ahead (own (name (nm d)) ∷ own (name (nm x)) ∷ []) (map_reading (fields_pieces CaseField) (read_fields bound ws nm ty q))
  unfolding read_case read_name case_pieces ahead map_reading
  case-read p {d} {x} {q} t = rw (t.first, t.second) (go (read_fields bound ws nm ty q))
    where
      go : (y : Reading (Fields N)) → map_reading case_pieces (y >>= λ fs r. got (record { doc_string = nm d; name = nm x; fields = fs }) r)
          ≡ map_reading (λ qs. own (name (nm d)) ∷ own (name (nm x)) ∷ qs) (map_reading (fields_pieces CaseField) y)
      go (got fs r) = refl
      go (stop r) = refl

  pub case-halts : (p : ℕ) {r : Refusal} → NoPair (read_below bound ws p) (read_below bound ws) r → read_case bound ws nm ty p ≡ stop r
  unfolding read_case read_name
  case-halts p (at_first d) = rw d
  case-halts p (at_second d e) = rw (d, e)

  -- ---- what is left, by its parts

  abbrev pub left : Role → ℕ → ℕ → (ℕ → Reading (List (Piece N))) → ℕ → Reading (List (Piece N))
  left a k n body p = many ty (type_piece a) k p & λ q. many (read_parameter present bound ws nm ty) (parameter_pieces plain a) n q & body

  left-type : (a : Role) (k n : ℕ) (body : ℕ → Reading (List (Piece N))) (p : ℕ) → 0 < k → left a k n body p ≡ (ty p >>= λ t q. ahead (type_piece a t) (left a (k - 1) n body q))
  left-type a k n body p h = item-more ty (type_piece a) k p _ h ∙ type-and a (ty p) (left a (k - 1) n body)

  pub left-parameters : (a : Role) (k n : ℕ) (body : ℕ → Reading (List (Piece N))) (p : ℕ) → k ≡ 0 → left a k n body p ≡ many (read_parameter present bound ws nm ty) (parameter_pieces plain a) n p & body
  left-parameters a k n body p e =
      ap (λ x. x & λ q. many (read_parameter present bound ws nm ty) (parameter_pieces plain a) n q & body) (many-none ty (type_piece a) k p e) ∙ and_none p _

  pub left_body : (a : Role) (k n : ℕ) (body : ℕ → Reading (List (Piece N))) (p : ℕ) → k ≡ 0 → n ≡ 0 → left a k n body p ≡ body p
  left_body a k n body p e d =
      left-parameters a k n body p e ∙ ap (λ x. x & body) (many-none (read_parameter present bound ws nm ty) (parameter_pieces plain a) n p d) ∙ and_none p body

  -- no types and no parameters are due
  pub rest-body : (w : Walk) → w.types ≡ 0 → w.parameters ≡ 0 → left_of present bound ws nm ty w ≡ body_of present bound ws nm ty w w.after w.place
  unfolding left_of
  rest-body w e d = left_body w.role w.types w.parameters (body_of present bound ws nm ty w w.after) w.place e d

  pub rest-after : (w : Walk) {a : After} → w.types ≡ 0 → w.parameters ≡ 0 → w.after ≡ a → left_of present bound ws nm ty w ≡ body_of present bound ws nm ty w a w.place
  rest-after w e d k = rest-body w e d ∙ ap (λ a. body_of present bound ws nm ty w a w.place) k

  no-fields-due : (a : Role) (k n p : ℕ) → n ≡ 0 → some_fields present bound ws nm ty a k n p ≡ got [] p
  unfolding some_fields
  no-fields-due a k n p e = go (eqb k 0) (many-none (read_field bound ws nm ty) (field_pieces a) n p e) (many-none (read_nameless_field bound ws nm ty) (nameless_pieces a) n p e)
    where
      go : (b : Bool) {x y : Reading (List (Piece N))} → x ≡ got [] p → y ≡ got [] p → pick b x y ≡ got [] p
      go true h c = h
      go false h c = c

  -- the fields that are due, and then the cases
  abbrev pub members : Role → ℕ → ℕ → ℕ → ℕ → Reading (List (Piece N))
  members a kind n c p = some_fields present bound ws nm ty a kind n p & many (read_case bound ws nm ty) case_pieces c

  pub members-cases : (a : Role) (kind n c p : ℕ) → n ≡ 0 → members a kind n c p ≡ many (read_case bound ws nm ty) case_pieces c p
  members-cases a kind n c p e = ap (λ x. x & many (read_case bound ws nm ty) case_pieces c) (no-fields-due a kind n p e) ∙ and_none p _

  members-named : (a : Role) (kind n c p : ℕ) → kind ≡ 0 → members a kind n c p ≡ many (read_field bound ws nm ty) (field_pieces a) n p & many (read_case bound ws nm ty) case_pieces c
  unfolding some_fields
  members-named a kind n c p e = rw (eq-eqb kind 0 e)

  members-nameless : (a : Role) (kind n c p : ℕ) → (kind ≡ 0 → ⊥) → members a kind n c p ≡ many (read_nameless_field bound ws nm ty) (nameless_pieces a) n p & many (read_case bound ws nm ty) case_pieces c
  unfolding some_fields
  members-nameless a kind n c p e = rw (ne_eqb kind 0 e)

  -- in a field: its type, and the members behind it
  left_of-in_field : (w : Walk) (q : ℕ) → left_of present bound ws nm ty (in_field w q) ≡ map_reading (type_piece w.role) (ty q) & members w.role w.kind (w.fields - 1) w.cases
  unfolding left_of body_of
  left_of-in_field w q =
      and_same (many ty (type_piece w.role) 1 q) _ (members w.role w.kind (w.fields - 1) w.cases)
      (λ r. ap (λ x. x & members w.role w.kind (w.fields - 1) w.cases) (many-none (read_parameter present bound ws nm ty) (parameter_pieces plain w.role) 0 r refl) ∙ and_none r _)
      ∙ ap (λ x. x & members w.role w.kind (w.fields - 1) w.cases) (many-one w.role ty q)

  -- ---- the steps

  parameter-step : (w : Walk) {x m q : ℕ} → w.types ≡ 0 → 0 < w.parameters → read_entry bound ws w.place ≡ got (x, m) q
      → left_of present bound ws nm ty w ≡ ahead (own (name (nm x)) ∷ own (word m) ∷ []) (left_of present bound ws nm ty (in_parameter w m q))
  unfolding left_of body_of
  parameter-step w {x} {m} {q} e h d =
      left-parameters w.role w.types w.parameters _ w.place e
      ∙ item-more (read_parameter present bound ws nm ty) (parameter_pieces plain w.role) w.parameters w.place _ h
      ∙ ap (λ y. y & λ r. many (read_parameter present bound ws nm ty) (parameter_pieces plain w.role) (w.parameters - 1) r & body_of present bound ws nm ty w w.after) (parameter-read w.role w.place (entry bound ws w.place d))
      ∙ ahead-and _ (many ty (type_piece w.role) m q) _
      ∙ ap (ahead (own (name (nm x)) ∷ own (word m) ∷ [])) (same_body w.after)
    where
      same_body : (a : After) → left w.role m (w.parameters - 1) (body_of present bound ws nm ty w a) q ≡ left w.role m (w.parameters - 1) (body_of present bound ws nm ty (in_parameter w m q) a) q
      same_body (FieldList r) = refl
      same_body CaseList = refl
      same_body OneType = refl
      same_body NoMore = refl

  pub type-step : (w : Walk) → 0 < w.types → left_of present bound ws nm ty w ≡ (ty w.place >>= λ t q. ahead (type_piece w.role t) (left_of present bound ws nm ty (moved (past_type w) q)))
  unfolding left_of body_of
  type-step w h = left-type w.role w.types w.parameters _ w.place h ∙ go (ty w.place)
    where
      same_body : (a : After) (q : ℕ) → left w.role (w.types - 1) w.parameters (body_of present bound ws nm ty w a) q ≡ left w.role (w.types - 1) w.parameters (body_of present bound ws nm ty (moved (past_type w) q) a) q
      same_body (FieldList r) q = refl
      same_body CaseList q = refl
      same_body OneType q = refl
      same_body NoMore q = refl

      go : (y : Reading (Ty N)) → (y >>= λ t q. ahead (type_piece w.role t) (left w.role (w.types - 1) w.parameters (body_of present bound ws nm ty w w.after) q))
          ≡ (y >>= λ t q. ahead (type_piece w.role t) (left w.role (w.types - 1) w.parameters (body_of present bound ws nm ty (moved (past_type w) q) w.after) q))
      go (got t q) = ap (ahead (type_piece w.role t)) (same_body w.after q)
      go (stop r) = refl

  alias-step : (w : Walk) → w.types ≡ 0 → w.parameters ≡ 0 → w.after ≡ OneType
      → left_of present bound ws nm ty w ≡ (ty w.place >>= λ t q. ahead (type_piece Aliased t) (left_of present bound ws nm ty (moved (past_alias w) q)))
  unfolding body_of ahead map_reading
  alias-step w e d k = rest-after w e d k ∙ go (ty w.place)
    where
      none : (q : ℕ) → left_of present bound ws nm ty (moved (past_alias w) q) ≡ got [] q
      none q = rest-body (moved (past_alias w) q) refl refl ∙ members-cases Aliased 0 0 0 q refl ∙ many-none (read_case bound ws nm ty) case_pieces 0 q refl

      go : (y : Reading (Ty N)) → map_reading (type_piece Aliased) y ≡ (y >>= λ t q. ahead (type_piece Aliased t) (left_of present bound ws nm ty (moved (past_alias w) q)))
      go (got t q) = sym (ap (ahead (type_piece Aliased t)) (none q))
      go (stop r) = refl

  fields-step : (w : Walk) {b : Role} {k n q : ℕ} → w.types ≡ 0 → w.parameters ≡ 0 → w.after ≡ FieldList b → read_entry 2 ws w.place ≡ got (k, n) q
      → left_of present bound ws nm ty w ≡ ahead (own (word k) ∷ own (word n) ∷ []) (left_of present bound ws nm ty (in_fields w b k n q))
  unfolding body_of
  fields-step w {b} {k} {n} {q} e d a r =
      rest-after w e d a
      ∙ ap (λ x. x & many (read_case bound ws nm ty) case_pieces w.cases) (fields_read b w.place (entry 2 ws w.place r))
      ∙ ahead-and _ (some_fields present bound ws nm ty b k n q) _
      ∙ sym (ap (ahead (own (word k) ∷ own (word n) ∷ [])) (rest-body (in_fields w b k n q) refl refl))

  cases_step : (w : Walk) {n q : ℕ} → w.types ≡ 0 → w.parameters ≡ 0 → w.after ≡ CaseList → read_word ws w.place ≡ got n q
      → left_of present bound ws nm ty w ≡ ahead (own (word n) ∷ []) (left_of present bound ws nm ty (in_cases n q))
  unfolding body_of
  cases_step w {n} {q} e d a r =
      rest-after w e d a ∙ counted-read (read_case bound ws nm ty) case_pieces w.place r
      ∙ sym (ap (ahead (own (word n) ∷ [])) (rest-body (in_cases n q) refl refl ∙ members-cases CaseField 0 0 n q refl))

  field_step : (w : Walk) {v x q : ℕ} → w.types ≡ 0 → w.parameters ≡ 0 → w.after ≡ NoMore → 0 < w.fields → w.kind ≡ 0 → read_two 2 bound ws w.place ≡ got (v, x) q
      → left_of present bound ws nm ty w ≡ ahead (own (word v) ∷ own (name (nm x)) ∷ []) (left_of present bound ws nm ty (in_field w q))
  unfolding body_of
  field_step w {v} {x} {q} e d a h k r =
      let g : ℕ → Reading (List (Piece N)) = λ s. many (read_field bound ws nm ty) (field_pieces w.role) (w.fields - 1) s & many (read_case bound ws nm ty) case_pieces w.cases in
      rest-after w e d a ∙ members-named w.role w.kind w.fields w.cases w.place k
      ∙ item-more (read_field bound ws nm ty) (field_pieces w.role) w.fields w.place _ h
      ∙ ap (λ y. y & g) (field-read w.role w.place (two 2 ws w.place bound r))
      ∙ ahead-and _ (map_reading (type_piece w.role) (ty q)) g
      ∙ ap (ahead (own (word v) ∷ own (name (nm x)) ∷ []))
      (and_same (map_reading (type_piece w.role) (ty q)) g (members w.role w.kind (w.fields - 1) w.cases) (λ s. sym (members-named w.role w.kind (w.fields - 1) w.cases s k)) ∙ sym (left_of-in_field w q))

  nameless-step : (w : Walk) {v q : ℕ} → w.types ≡ 0 → w.parameters ≡ 0 → w.after ≡ NoMore → 0 < w.fields → (w.kind ≡ 0 → ⊥) → read_below 2 ws w.place ≡ got v q
      → left_of present bound ws nm ty w ≡ ahead (own (word v) ∷ []) (left_of present bound ws nm ty (in_field w q))
  unfolding body_of
  nameless-step w {v} {q} e d a h k r =
      let g : ℕ → Reading (List (Piece N)) = λ s. many (read_nameless_field bound ws nm ty) (nameless_pieces w.role) (w.fields - 1) s & many (read_case bound ws nm ty) case_pieces w.cases in
      rest-after w e d a ∙ members-nameless w.role w.kind w.fields w.cases w.place k
      ∙ item-more (read_nameless_field bound ws nm ty) (nameless_pieces w.role) w.fields w.place _ h
      ∙ ap (λ y. y & g) (nameless-read w.role w.place r)
      ∙ ahead-and _ (map_reading (type_piece w.role) (ty q)) g
      ∙ ap (ahead (own (word v) ∷ []))
      (and_same (map_reading (type_piece w.role) (ty q)) g (members w.role w.kind (w.fields - 1) w.cases) (λ s. sym (members-nameless w.role w.kind (w.fields - 1) w.cases s k)) ∙ sym (left_of-in_field w q))

  -- the cases that are due, where no field is
  case-due : (w : Walk) → w.types ≡ 0 → w.parameters ≡ 0 → w.after ≡ NoMore → w.fields ≡ 0 → left_of present bound ws nm ty w ≡ many (read_case bound ws nm ty) case_pieces w.cases w.place
  unfolding body_of
  case-due w e d a f = rest-after w e d a ∙ members-cases w.role w.kind w.fields w.cases w.place f

  case_step : (w : Walk) {d x q : ℕ} → w.types ≡ 0 → w.parameters ≡ 0 → w.after ≡ NoMore → w.fields ≡ 0 → 0 < w.cases → read_two bound bound ws w.place ≡ got (d, x) q
      → left_of present bound ws nm ty w ≡ ahead (own (name (nm d)) ∷ own (name (nm x)) ∷ []) (left_of present bound ws nm ty (in_case w q))
  unfolding body_of
  case_step w {d} {x} {q} e k a f h r =
      let g : ℕ → Reading (List (Piece N)) = λ s. got [] s in
      let more : ℕ → Reading (List (Piece N)) = many (read_case bound ws nm ty) case_pieces (w.cases - 1) in
      case-due w e k a f ∙ sym (and_last (many (read_case bound ws nm ty) case_pieces w.cases w.place))
      ∙ item-more (read_case bound ws nm ty) case_pieces w.cases w.place g h
      ∙ and_same (map_reading case_pieces (read_case bound ws nm ty w.place)) (λ s. more s & g) more (λ s. and_last (more s))
      ∙ ap (λ y. y & more) (case-read w.place (two bound ws w.place bound r))
      ∙ ahead-and _ (map_reading (fields_pieces CaseField) (read_fields bound ws nm ty q)) more
      ∙ sym (ap (ahead (own (name (nm d)) ∷ own (name (nm x)) ∷ [])) (rest-body (in_case w q) refl refl))

  -- ---- refusals, and the end

  pub halt-step : (w : Walk) {r : Refusal} → Stepped bound ws w (Err r) → left_of present bound ws nm ty w ≡ stop r
  unfolding left_of body_of map_reading
  halt-step w (no-parameter e h d) =
      left-parameters w.role w.types w.parameters _ w.place e
      ∙ many-stop (read_parameter present bound ws nm ty) (parameter_pieces plain w.role) w.parameters w.place _ h (parameter-halts w.place (no-entry bound ws w.place d))
  halt-step w {r} (no_fields {a = b} e d a k) =
      rest-after w e d a
      ∙ ap (λ x. map_reading (fields_pieces b) x & many (read_case bound ws nm ty) case_pieces w.cases) (fields-halt w.place (no-entry 2 ws w.place k))
      ∙ and-stop r _
  halt-step w (no_cases e d a k) = rest-after w e d a ∙ counted-halts (read_case bound ws nm ty) case_pieces w.place k
  halt-step w (no_field e d a h k r) =
      rest-after w e d a ∙ members-named w.role w.kind w.fields w.cases w.place k
      ∙ many-stop (read_field bound ws nm ty) (field_pieces w.role) w.fields w.place _ h (field-halts w.place (no-two 2 ws w.place bound r))
  halt-step w (no-nameless e d a h k r) =
      rest-after w e d a ∙ members-nameless w.role w.kind w.fields w.cases w.place k
      ∙ many-stop (read_nameless_field bound ws nm ty) (nameless_pieces w.role) w.fields w.place _ h (nameless-halts w.place r)
  halt-step w (no-case e d a f h r) =
      case-due w e d a f ∙ sym (and_last (many (read_case bound ws nm ty) case_pieces w.cases w.place))
      ∙ many-stop (read_case bound ws nm ty) case_pieces w.cases w.place _ h (case-halts w.place (no-two bound ws w.place bound r))

  pub end_step : (w : Walk) → Stepped bound ws w (Ok Ended) → left_of present bound ws nm ty w ≡ got [] w.place
  end_step w (end e d a f c) = case-due w e d a f ∙ many-none (read_case bound ws nm ty) case_pieces w.cases w.place c

  -- a list of fields is all that is left
  pub record FieldsLeft (b : Role) (ps : List (Piece N)) : Type 0 where
    pub fields : Fields N
    pub parts : ps ≡ fields_pieces b fields

  pub fields-left : (w : Walk) {b : Role} {ps : List (Piece N)} {n : ℕ} → w.types ≡ 0 → w.parameters ≡ 0 → w.after ≡ FieldList b → w.cases ≡ 0
      → left_of present bound ws nm ty w ≡ got ps n → FieldsLeft b ps
  unfolding body_of map_reading
  fields-left w {b} {ps} {n} e d a c l =
      let x = read_fields bound ws nm ty w.place in
      let alone = and_same (map_reading (fields_pieces b) x) _ (λ q. got [] q) (λ q. many-none (read_case bound ws nm ty) case_pieces w.cases q c) ∙ and_last (map_reading (fields_pieces b) x) in
      go x (sym alone ∙ sym (rest-after w e d a) ∙ l)
    where
      go : (y : Reading (Fields N)) → map_reading (fields_pieces b) y ≡ got ps n → FieldsLeft b ps
      go (got fs m) h = record { fields = fs; parts = cc }
      go (stop r) h = impossible (cc)

  -- ---- types

  pub record TypeStep (w : Walk) (a : Role) (w' : Walk) : Type 0 where
    pub reads : left_of present bound ws nm ty w ≡ (ty w.place >>= λ t q. ahead (type_piece a t) (left_of present bound ws nm ty (moved w' q)))
    pub here : w'.place ≡ w.place

  pub due-step : (w : Walk) {a : Role} {w' : Walk} → Stepped bound ws w (Ok (TypeDue a w')) → TypeStep w a w'
  due-step w (type-due h) = record { reads = type-step w h; here = refl }
  due-step w (alias e d a) = record { reads = alias-step w e d a; here = refl }

  -- ---- own words

  -- the own words between two places, and the pieces that they are
  pub record OwnStep (w w' : Walk) : Type 0 where
    pub tokens : List (Token ℕ)
    pub reads : left_of present bound ws nm ty w ≡ ahead (own_pieces (map (renamed_token nm) tokens)) (left_of present bound ws nm ty w')
    pub run : Run ws w.place (map token_word tokens)
    pub end : w'.place ≡ w.place + length tokens
    pub further : w.place < w'.place

  pub own-step : (w : Walk) {w' : Walk} → Stepped bound ws w (Ok (OwnWords w')) → OwnStep w w'
  unfolding renamed_token token_word
  own-step w (parameter {x = x} {m = m} e h d) =
      let t = entry bound ws w.place d in
      let r = two_run ws w.place (below_word bound ws w.place t.first) (word-there ws t.middle t.second) in
      record { tokens = name x ∷ word m ∷ []; reads = parameter-step w e h d; run = r.0; end = r.1; further = omega (arith, r.1) }
  own-step w (fields {k = k} {n = n} e d a h) =
      let t = entry 2 ws w.place h in
      let r = two_run ws w.place (below_word 2 ws w.place t.first) (word-there ws t.middle t.second) in
      record { tokens = word k ∷ word n ∷ []; reads = fields-step w e d a h; run = r.0; end = r.1; further = omega (arith, r.1) }
  own-step w (cases {n = n} e d a h) =
      let r = one-run ws w.place (word-there ws w.place h) in
      record { tokens = word n ∷ []; reads = cases_step w e d a h; run = r.0; end = r.1; further = omega (arith, r.1) }
  own-step w (field {v = v} {x = x} e d a h k g) =
      let t = two 2 ws w.place bound g in
      let r = two_run ws w.place (below_word 2 ws w.place t.first) (below_word bound ws t.middle t.second) in
      record { tokens = word v ∷ name x ∷ []; reads = field_step w e d a h k g; run = r.0; end = r.1; further = omega (arith, r.1) }
  own-step w (nameless {v = v} e d a h k g) =
      let r = one-run ws w.place (below_word 2 ws w.place g) in
      record { tokens = word v ∷ []; reads = nameless-step w e d a h k g; run = r.0; end = r.1; further = omega (arith, r.1) }
  own-step w (case {d = d} {x = x} e k a f h g) =
      let t = two bound ws w.place bound g in
      let r = two_run ws w.place (below_word bound ws w.place t.first) (below_word bound ws t.middle t.second) in
      record { tokens = name d ∷ name x ∷ []; reads = case_step w e k a f h g; run = r.0; end = r.1; further = omega (arith, r.1) }

-- ---- a field that was accepted: its own words go up to its type

module _ {N : Type 0} (bound : ℕ) (ws : List ℕ) (nm : ℕ → N) (ty : ℕ → Reading (Ty N)) where
  two-end : (b c at : ℕ) {v : ℕ × ℕ} {q : ℕ} → read_two b c ws at ≡ got v q → q ≡ at + 2
  unfolding read_two
  two-end b c at {v} {q} e =
      let r₁ = bind-got (read_below b ws at) _ e in
      let r₂ = bind-got (read_below c ws r₁.end) _ r₁.rest in
      let n₁ = (below-there b ws at r₁.first).next in
      let n₂ = (below-there c ws r₁.end r₂.first).next in
      let z : r₂.end ≡ q = cc r₂.rest in
      omega (arith, n₁, n₂, z)

  pub field-opens : (w : Walk) {ps : List (Piece N)} {n : ℕ} → left_of present bound ws nm ty w ≡ got ps n → FieldNext w → Stepped bound ws w (Ok (OwnWords (in_field w (field_type w))))
  field-opens w {ps} {n} l (t, m, a, f) = kinds (eqb w.kind 0) refl
    where
      never : {r : Refusal} → Stepped bound ws w (Err r) → ⊥
      never s = let k = halt-step bound ws nm ty w s in impossible (cc (k, l))

      named : w.kind ≡ 0 → (x : Reading (ℕ × ℕ)) → read_two 2 bound ws w.place ≡ x → Stepped bound ws w (Ok (OwnWords (in_field w (w.place + 2))))
      named k (got v q) e = subst (λ (i : ℕ). Stepped bound ws w (Ok (OwnWords (in_field w i)))) (two-end 2 bound w.place e) (field t m a f k e)
      named k (stop r) e = absurd (never (no_field t m a f k e))

      nameless-one : (w.kind ≡ 0 → ⊥) → (x : Reading ℕ) → read_below 2 ws w.place ≡ x → Stepped bound ws w (Ok (OwnWords (in_field w (w.place + 1))))
      nameless-one k (got v q) e = subst (λ (i : ℕ). Stepped bound ws w (Ok (OwnWords (in_field w i)))) (below-there 2 ws w.place e).next (nameless t m a f k e)
      nameless-one k (stop r) e = absurd (never (no-nameless t m a f k e))

      kinds : (b : Bool) → eqb w.kind 0 ≡ b → Stepped bound ws w (Ok (OwnWords (in_field w (pick b (w.place + 2) (w.place + 1)))))
      kinds true e = named (eqb-true w.kind 0 e) (read_two 2 bound ws w.place) refl
      kinds false e = nameless-one (eqb-false w.kind 0 e) (read_below 2 ws w.place) refl
