-- A walk over a declaration: what is left to read of it, as pieces, and how each step goes on.
use Rattle.std.specs.Prelude.{Ok, Err, Result, ℕ, suc, ◌+◌, ◌-◌, ◌<◌, ◌≡◌, List, ◌++◌, eqb}
use Rattle.rast.specs.Bytes.{Bytes}
use Rattle.rast.specs.Tree.{Ty}
use Rattle.rast.specs.Declaration.{Attribute}
use Rattle.encoding.specs.Words.{visibility_count, named_kind, field_kinds}
use Rattle.encoding.specs.declared.Refusal.{Refusal}
use Rattle.encoding.specs.declared.Refusal.TheVariants.{UnknownWord}
use Rattle.encoding.specs.Refusals.{pick}
use Rattle.encoding.specs.Reading.{Reading, got, stop, ◌>>=◌, read_word, read_below}
use Rattle.encoding.specs.Scans.{map_reading}
use Rattle.encoding.specs.Tables.{name_bytes, name_count}
use Rattle.encoding.specs.Heads.{read_path}
use Rattle.encoding.specs.Types.{path_of, type_at}
use Rattle.encoding.specs.Forms.{Form, present}
use Rattle.encoding.specs.Declarations.{read_list, read_counted, read_attribute, read_parameter, read_field, read_nameless_field, read_fields, read_case, visibility_of}
use Rattle.tree_words.specs.Encode.{Token}
use Rattle.declaration_walk.specs.declared.After.{After}
use Rattle.declaration_walk.specs.declared.After.TheVariants.{FieldList, CaseList, OneType, NoMore}
use Rattle.declaration_walk.specs.declared.Role.{Role}
use Rattle.declaration_walk.specs.declared.Role.TheVariants.{Constraint, StructField, CaseField, Aliased}
use Rattle.declaration_walk.specs.declared.Walk.{Walk}
use Rattle.declaration_walk.specs.declared.Next.{Next}
use Rattle.declaration_walk.specs.declared.Next.TheVariants.{OwnWords, TypeDue, Ended}
use Rattle.declaration_walk.specs.Pieces.{Piece, runs, type_piece, parameter_pieces, field_pieces, nameless_pieces, fields_pieces, case_pieces, counted, title_tokens, use_tokens}

-- ---- runs of pieces

module _ {N : Type 0} where
  -- pieces before what is read
  unfoldable pub ahead : List (Piece N) → Reading (List (Piece N)) → Reading (List (Piece N))
  ahead ps x = map_reading (λ qs. ps ++ qs) x

  -- one run, and another behind it
  infixr 11 ◌&◌
  unfoldable pub ◌&◌ : Reading (List (Piece N)) → (ℕ → Reading (List (Piece N))) → Reading (List (Piece N))
  x & g = x >>= λ ps q. ahead ps (g q)

  -- n things, each read by `item`, as the pieces that f gives for each
  unfoldable pub many : {A : Type 0} → (ℕ → Reading A) → (A → List (Piece N)) → ℕ → ℕ → Reading (List (Piece N))
  many item f n p = map_reading (runs f) (read_list item n p)

-- ---- what is left

-- as in Declarations: `bound` is the number of names, `nm` what each stands for, `type` reads a type that stands inside no other
module _ {N : Type 0} (form : Form) (bound : ℕ) (ws : List ℕ) (nm : ℕ → N) (type : ℕ → Reading (Ty N)) where
  -- n fields of a role, named if the kind is 0
  unfoldable pub some_fields : Role → ℕ → ℕ → ℕ → Reading (List (Piece N))
  some_fields r kind n p =
      pick (eqb kind named_kind) (many (read_field bound ws nm type) (field_pieces r) n p) (many (read_nameless_field bound ws nm type) (nameless_pieces r) n p)

  -- behind the parameters: fields and then cases; cases; a type; or the fields and cases that are due
  unfoldable pub body_of : Walk → After → ℕ → Reading (List (Piece N))
  body_of w (FieldList r) p = map_reading (fields_pieces r) (read_fields bound ws nm type p) & many (read_case bound ws nm type) case_pieces w.cases
  body_of w CaseList p = map_reading (counted case_pieces) (read_counted ws (read_case bound ws nm type) p)
  body_of w OneType p = map_reading (type_piece Aliased) (type p)
  body_of w NoMore p = some_fields w.role w.kind w.fields p & many (read_case bound ws nm type) case_pieces w.cases

  -- the types that are due, then the parameters, then what follows them
  unfoldable pub left_of : Walk → Reading (List (Piece N))
  left_of w =
      many type (type_piece w.role) w.types w.place & λ p.
      many (read_parameter form bound ws nm type) (parameter_pieces form.entries w.role) w.parameters p & λ q.
      body_of w w.after q

-- ---- steps

-- a name or other word below b, and then any word; two words, each below its bound
unfoldable pub read_entry : ℕ → List ℕ → ℕ → Reading (ℕ × ℕ)
read_entry b ws p = read_below b ws p >>= λ x q. read_word ws q >>= λ y r. got (x, y) r

unfoldable pub read_two : ℕ → ℕ → List ℕ → ℕ → Reading (ℕ × ℕ)
read_two b c ws p = read_below b ws p >>= λ x q. read_below c ws q >>= λ y r. got (x, y) r

abbrev pub two_scan : Reading (ℕ × ℕ) → Result (ℕ × ℕ × ℕ) Refusal
two_scan (got e n) = Ok (e.0, e.1, n)
two_scan (stop r) = Err r

-- the walk at another place
abbrev pub moved : Walk → ℕ → Walk
moved w q = record { place = q; role = w.role; types = w.types; parameters = w.parameters; after = w.after; kind = w.kind; fields = w.fields; cases = w.cases }

-- behind the type that is due
abbrev pub past_type : Walk → Walk
past_type w = record { place = w.place; role = w.role; types = w.types - 1; parameters = w.parameters; after = w.after; kind = w.kind; fields = w.fields; cases = w.cases }

abbrev pub past_alias : Walk → Walk
past_alias w = record { place = w.place; role = Aliased; types = 0; parameters = 0; after = NoMore; kind = 0; fields = 0; cases = 0 }

-- in a parameter, of which m types follow at q
abbrev pub in_parameter : Walk → ℕ → ℕ → Walk
in_parameter w m q = record { place = q; role = w.role; types = m; parameters = w.parameters - 1; after = w.after; kind = w.kind; fields = w.fields; cases = w.cases }

-- in a list of n fields of a role, which follow at q
abbrev pub in_fields : Walk → Role → ℕ → ℕ → ℕ → Walk
in_fields w r k n q = record { place = q; role = r; types = 0; parameters = 0; after = NoMore; kind = k; fields = n; cases = w.cases }

-- in a list of n cases
abbrev pub in_cases : ℕ → ℕ → Walk
in_cases n q = record { place = q; role = CaseField; types = 0; parameters = 0; after = NoMore; kind = 0; fields = 0; cases = n }

-- in a field, whose type follows at q
abbrev pub in_field : Walk → ℕ → Walk
in_field w q = record { place = q; role = w.role; types = 1; parameters = 0; after = NoMore; kind = w.kind; fields = w.fields - 1; cases = w.cases }

-- in a case, whose fields follow at q
abbrev pub in_case : Walk → ℕ → Walk
in_case w q = record { place = q; role = CaseField; types = 0; parameters = 0; after = FieldList CaseField; kind = 0; fields = 0; cases = w.cases - 1 }

-- a field comes next; where its type stands; and the walk behind it, at q
abbrev pub FieldNext : Walk → Type 0
FieldNext w = (w.types ≡ 0) × (w.parameters ≡ 0) × (w.after ≡ NoMore) × (0 < w.fields)

abbrev pub field_type : Walk → ℕ
field_type w = pick (eqb w.kind named_kind) (w.place + 2) (w.place + 1)

abbrev pub past_field : Walk → ℕ → Walk
past_field w q = record { place = q; role = w.role; types = 0; parameters = 0; after = NoMore; kind = w.kind; fields = w.fields - 1; cases = w.cases }

-- the own words of the next step, and how it goes on
pub data Stepped (bound : ℕ) (ws : List ℕ) (w : Walk) : Result Next Refusal → Type 0 where
  type-due : 0 < w.types → Stepped bound ws w (Ok (TypeDue w.role (past_type w)))
  parameter : {x m q : ℕ} → w.types ≡ 0 → 0 < w.parameters → read_entry bound ws w.place ≡ got (x, m) q → Stepped bound ws w (Ok (OwnWords (in_parameter w m q)))
  no-parameter : {r : Refusal} → w.types ≡ 0 → 0 < w.parameters → read_entry bound ws w.place ≡ stop r → Stepped bound ws w (Err r)
  fields : {r : Role} {k n q : ℕ} → w.types ≡ 0 → w.parameters ≡ 0 → w.after ≡ FieldList r → read_entry field_kinds ws w.place ≡ got (k, n) q → Stepped bound ws w (Ok (OwnWords (in_fields w r k n q)))
  no_fields : {a : Role} {r : Refusal} → w.types ≡ 0 → w.parameters ≡ 0 → w.after ≡ FieldList a → read_entry field_kinds ws w.place ≡ stop r → Stepped bound ws w (Err r)
  cases : {n q : ℕ} → w.types ≡ 0 → w.parameters ≡ 0 → w.after ≡ CaseList → read_word ws w.place ≡ got n q → Stepped bound ws w (Ok (OwnWords (in_cases n q)))
  no_cases : {r : Refusal} → w.types ≡ 0 → w.parameters ≡ 0 → w.after ≡ CaseList → read_word ws w.place ≡ stop r → Stepped bound ws w (Err r)
  alias : w.types ≡ 0 → w.parameters ≡ 0 → w.after ≡ OneType → Stepped bound ws w (Ok (TypeDue Aliased (past_alias w)))
  field : {v x q : ℕ} → w.types ≡ 0 → w.parameters ≡ 0 → w.after ≡ NoMore → 0 < w.fields → w.kind ≡ named_kind → read_two visibility_count bound ws w.place ≡ got (v, x) q
      → Stepped bound ws w (Ok (OwnWords (in_field w q)))
  no_field : {r : Refusal} → w.types ≡ 0 → w.parameters ≡ 0 → w.after ≡ NoMore → 0 < w.fields → w.kind ≡ named_kind → read_two visibility_count bound ws w.place ≡ stop r
      → Stepped bound ws w (Err r)
  nameless : {v q : ℕ} → w.types ≡ 0 → w.parameters ≡ 0 → w.after ≡ NoMore → 0 < w.fields → (w.kind ≡ named_kind → ⊥) → read_below visibility_count ws w.place ≡ got v q
      → Stepped bound ws w (Ok (OwnWords (in_field w q)))
  no-nameless : {r : Refusal} → w.types ≡ 0 → w.parameters ≡ 0 → w.after ≡ NoMore → 0 < w.fields → (w.kind ≡ named_kind → ⊥) → read_below visibility_count ws w.place ≡ stop r
      → Stepped bound ws w (Err r)
  case : {d x q : ℕ} → w.types ≡ 0 → w.parameters ≡ 0 → w.after ≡ NoMore → w.fields ≡ 0 → 0 < w.cases → read_two bound bound ws w.place ≡ got (d, x) q
      → Stepped bound ws w (Ok (OwnWords (in_case w q)))
  no-case : {r : Refusal} → w.types ≡ 0 → w.parameters ≡ 0 → w.after ≡ NoMore → w.fields ≡ 0 → 0 < w.cases → read_two bound bound ws w.place ≡ stop r
      → Stepped bound ws w (Err r)
  end : w.types ≡ 0 → w.parameters ≡ 0 → w.after ≡ NoMore → w.fields ≡ 0 → w.cases ≡ 0 → Stepped bound ws w (Ok Ended)

-- ---- the start

-- what a declaration begins with, up to its first parameter or, of a use, all of it: own words by name numbers
pub record Opening : Type 0 where
  pub tokens : List (Token ℕ)
  pub parameters : ℕ
  pub after : After

-- attributes by name numbers: no type is read
abbrev pub read_one_attribute : ℕ → List ℕ → ℕ → Reading (Attribute ℕ)
read_one_attribute bound ws p = read_attribute bound ws (λ x. x) (λ i. stop UnknownWord) p

unfoldable pub read_attributes : ℕ → List ℕ → ℕ → Reading (List (Attribute ℕ))
read_attributes bound ws p = read_counted ws (read_one_attribute bound ws) p

unfoldable pub read_title : ℕ → List ℕ → ℕ → After → ℕ → Reading Opening
read_title bound ws k after p =
    read_below bound ws p >>= λ d q. read_attributes bound ws q >>= λ l r. read_entry bound ws r >>= λ e s.
    got (record { tokens = title_tokens k d l e.0 e.1; parameters = e.1; after = after }) s

unfoldable pub read_using : ℕ → ℕ → List ℕ → ℕ → Reading Opening
read_using k bound ws p =
    read_below visibility_count ws p >>= λ v q. read_path bound ws q >>= λ x r.
    got (record { tokens = use_tokens k (record { visibility = visibility_of v; path = path_of ws (λ i. i) x }); parameters = 0; after = NoMore }) r

unfoldable pub opening_after : Form → ℕ → List ℕ → ℕ → ℕ → Reading Opening
opening_after form bound ws w p =
    pick (eqb w form.struct_head) (read_title bound ws form.struct_head (FieldList StructField) p)
    (pick (eqb w form.enum_head) (read_title bound ws form.enum_head CaseList p)
    (pick (eqb w form.synonym_head) (read_title bound ws form.synonym_head OneType p)
    (pick (eqb w form.use_head) (read_using form.use_head bound ws p)
    (stop UnknownWord))))

unfoldable pub read_opening : Form → ℕ → List ℕ → ℕ → Reading Opening
read_opening form bound ws at = read_word ws at >>= λ w p. opening_after form bound ws w p

-- the walk behind an opening
abbrev pub opened : Opening → ℕ → Walk
opened o n = record { place = n; role = Constraint; types = 0; parameters = o.parameters; after = o.after; kind = 0; fields = 0; cases = 0 }

-- a title behind its head, by the walk alone: its own words do not matter to it
abbrev pub started_at : After → Reading (ℕ × ℕ) → Result Walk Refusal
started_at after (got e n) = Ok (record { place = n; role = Constraint; types = 0; parameters = e.1; after = after; kind = 0; fields = 0; cases = 0 })
started_at after (stop r) = Err r

abbrev pub started_behind : {A : Type 0} → Reading A → (ℕ → Result Walk Refusal) → Result Walk Refusal
started_behind (got a n) f = f n
started_behind (stop r) f = Err r

abbrev pub titled : After → ℕ → List ℕ → ℕ → Result Walk Refusal
titled after bound ws p =
    started_behind (read_below bound ws p) λ q. started_behind (read_attributes bound ws q) λ r. started_at after (read_entry bound ws r)

abbrev pub started : Reading Opening → Result Walk Refusal
started (got o n) = Ok (opened o n)
started (stop r) = Err r

-- ---- things one behind the other

-- n things begin at p, and r says where they end, or the refusal that is met first: P says where each ends
pub data EachScanned (P : ℕ → Result ℕ Refusal → Type 0) : ℕ → ℕ → Result ℕ Refusal → Type 0 where
  all : {p : ℕ} → EachScanned P 0 p (Ok p)
  more : {n p q : ℕ} {r : Result ℕ Refusal} → P p (Ok q) → EachScanned P n q r → EachScanned P (suc n) p r
  refused : {n p : ℕ} {k : Refusal} → P p (Err k) → EachScanned P (suc n) p (Err k)

-- ---- of an encoding

abbrev pub left_at : List ℕ → List ℕ → Bytes → Walk → Reading (List (Piece Bytes))
left_at ws pairs text w = left_of present (name_count pairs) ws (name_bytes pairs text) (type_at ws pairs text) w
