-- A declaration is its opening, and what is left to the walk behind it.
use Rattle.std.specs.Prelude.{Some, None}
use Prim.Native.Nat.{ℕ, zero, suc}
use mathlib.Core.Path.{◌≡◌, refl, ap, sym, ◌∙◌}
use mathlib.Core.Bool.{Bool, true, false}
use mathlib.Core.List.{List, [], ◌∷◌, ◌++◌, map, map-append, map-id}
use lib.Dec.{eqb}
use lib.ListN.{length, take, drop, length-map}
use Rattle.rast.specs.Tree.{Global, Crate, Self, Ty}
use Rattle.rast.specs.Declaration.{Attribute, TypeParamDecl, Fields, EnumCase, StructDecl, EnumDecl, TypeDecl, UseDecl}
use Rattle.encoding.specs.declared.Refusal.TheVariants.{UnknownWord}
use Rattle.encoding.specs.declared.PathAt.{PathAt}
use Rattle.encoding.specs.Refusals.{pick}
use Rattle.encoding.specs.Reading.{Reading, got, stop, ◌>>=◌, read_word, read_below}
use Rattle.encoding.specs.Scans.{map_reading}
use Rattle.encoding.specs.Heads.{read_path}
use Rattle.encoding.specs.Types.{root_of, path_of}
use Rattle.encoding.specs.Forms.{present}
use Rattle.encoding.specs.Declarations.{read_list, read_counted, visibility_of, read_visibility, read_name, read_attribute, read_parameter, read_fields, read_case, read_struct, read_enum, read_type_synonym, read_use, declaration_after, read_declaration}
use Rattle.encoding.proofs.Reading.{map_same}
use Rattle.text_measure.proofs.Texts.{bind_assoc, bind-same}
use Rattle.tree_words.specs.Renamed.{renamed_size}
use Rattle.tree_words.specs.Encode.{Token, word, name, size, root_word, names, path_tokens}
use Rattle.tree_words.specs.Tokens.{renamed_token}
use Rattle.tree_words.proofs.Spans.{path_names, path-root}
use Rattle.tree_words.proofs.Renaming.{map_on, names-renamed}
use Rattle.declaration_walk.specs.declared.After.{After}
use Rattle.declaration_walk.specs.declared.After.TheVariants.{FieldList, CaseList, OneType, NoMore}
use Rattle.declaration_walk.specs.declared.Role.TheVariants.{Constraint, StructField, Aliased}
use Rattle.declaration_walk.specs.declared.Walk.{Walk}
use Rattle.declaration_walk.specs.Pieces.{Piece, runs, own_pieces, attribute_tokens, attributes_tokens, title_tokens, use_tokens, parameter_pieces, fields_pieces, case_pieces, counted, type_piece, heading, front, rest, pieces}
use Rattle.declaration_walk.specs.Mapped.{map_attribute}
use Rattle.declaration_walk.specs.Walks.{ahead, ◌&◌, many, body_of, left_of, read_entry, Opening, read_one_attribute, read_attributes, read_title, read_using, opening_after, read_opening, opened}
use Rattle.declaration_walk.proofs.Ahead.{ahead-twice, and_last, and_same, many-none, list_length}
use Rattle.declaration_walk.proofs.Steps.{left-parameters, rest-after, members-cases}
use Rattle.encoding.specs.Forms.{plain}

-- ---- own words by other names

root-same : (N : Type 0) (r : ℕ) → root_word {N = ℕ} (root_of r) ≡ root_word {N = N} (root_of r)
unfolding root_of root_word
root-same N r = go (eqb r 0) (eqb r 1)
  where
    go : (a b : Bool) → root_word {N = ℕ} (pick a Global (pick b Crate Self)) ≡ root_word {N = N} (pick a Global (pick b Crate Self))
    go true b = refl
    go false true = refl
    go false false = refl

module _ {N : Type 0} (nm : ℕ → N) where
  attribute-renamed : (a : Attribute ℕ) → map (renamed_token nm) (attribute_tokens a) ≡ attribute_tokens (map_attribute nm a)
  unfolding attribute_tokens renamed_token
  attribute-renamed a = rw (names-renamed nm a.derived, length-map a.derived nm)

  each-renamed : (l : List (Attribute ℕ)) → map (renamed_token nm) (runs attribute_tokens l) ≡ runs attribute_tokens (map (map_attribute nm) l)
  unfolding runs
  each-renamed [] = refl
  each-renamed (a ∷ l) = map-append (renamed_token nm) (attribute_tokens a) (runs attribute_tokens l) ∙ rw (attribute-renamed a, each-renamed l)

  attributes-renamed : (l : List (Attribute ℕ)) → map (renamed_token nm) (attributes_tokens l) ≡ attributes_tokens (map (map_attribute nm) l)
  unfolding attributes_tokens renamed_token
  attributes-renamed l = rw (each-renamed l, length-map l (map_attribute nm))

  title-renamed : (k d : ℕ) (l : List (Attribute ℕ)) (x n : ℕ) → map (renamed_token nm) (title_tokens k d l x n) ≡ title_tokens k (nm d) (map (map_attribute nm) l) (nm x) n
  unfolding title_tokens renamed_token
  title-renamed k d l x n = rw (map-append (renamed_token nm) (attributes_tokens l) (name x ∷ word n ∷ []), attributes-renamed l)

  path-renamed : (ws : List ℕ) (p : PathAt) → map (renamed_token nm) (path_tokens (path_of ws (λ i. i) p)) ≡ path_tokens (path_of ws nm p)
  unfolding path_tokens renamed_token
  path-renamed ws p =
      let xs = take p.count (drop p.start ws) in
      let e : names (path_of ws (λ i. i) p) ≡ xs = path_names ws (λ i. i) p ∙ map-id xs in
      rw (e, path_names ws nm p, names-renamed nm xs, length-map xs nm, path-root ws (λ i. i) p, path-root ws nm p, root-same N p.root)

-- names by their numbers are as they stand
pub tokens-same : (ks : List (Token ℕ)) → map (renamed_token (λ x. x)) ks ≡ ks
unfolding renamed_token renamed_size
tokens-same [] = refl
tokens-same (word k ∷ ks) = ap (◌∷◌ (word k)) (tokens-same ks)
tokens-same (name x ∷ ks) = ap (◌∷◌ (name x)) (tokens-same ks)
tokens-same (size None ∷ ks) = ap (◌∷◌ (size None)) (tokens-same ks)
tokens-same (size (Some x) ∷ ks) = ap (◌∷◌ (size (Some x))) (tokens-same ks)

list-renamed : {A B : Type 0} (r : A → B) (item : ℕ → Reading A) (item' : ℕ → Reading B) → ((p : ℕ) → item' p ≡ map_reading r (item p)) → (n p : ℕ)
    → read_list item' n p ≡ map_reading (map r) (read_list item n p)
unfolding read_list map_reading
list-renamed r item item' h zero p = refl
list-renamed r item item' h (suc n) p =
    map_on r (map r) (item p) _ _ (h p) λ x q. map_on (map r) (map r) (read_list item n q) _ _ (list-renamed r item item' h n q) λ xs s. refl

pub counted-renamed : (ws : List ℕ) {A B : Type 0} (r : A → B) (item : ℕ → Reading A) (item' : ℕ → Reading B) → ((p : ℕ) → item' p ≡ map_reading r (item p)) → (p : ℕ)
    → read_counted ws item' p ≡ map_reading (map r) (read_counted ws item p)
unfolding read_counted
counted-renamed ws r item item' h p = map_on (λ n. n) (map r) (read_word ws p) _ _ (sym (map_same (read_word ws p))) λ n q. list-renamed r item item' h n q

module _ {N : Type 0} (bound : ℕ) (ws : List ℕ) (nm : ℕ → N) (ty : ℕ → Reading (Ty N)) where
  abbrev no_type : ℕ → Reading (Ty ℕ)
  no_type i = stop UnknownWord

  name-read : (p : ℕ) → read_name bound ws nm ty p ≡ map_reading nm (read_name bound ws (λ x. x) no_type p)
  unfolding read_name map_reading
  name-read p = go (read_below bound ws p)
    where
      go : (y : Reading ℕ) → (y >>= λ x q. got (nm x) q) ≡ map_reading nm (y >>= λ x q. got x q)
      go (got x q) = refl
      go (stop r) = refl

  attribute-read : (p : ℕ) → read_attribute bound ws nm ty p ≡ map_reading (map_attribute nm) (read_one_attribute bound ws p)
  unfolding read_attribute map_reading
  attribute-read p =
      map_on nm (map_attribute nm) (read_name bound ws (λ x. x) no_type p) _ _ (name-read p) λ x q.
      map_on (map nm) (map_attribute nm) (read_counted ws (read_name bound ws (λ x. x) no_type) q) _ _ (counted-renamed ws nm _ _ name-read q) λ xs r. refl

  pub attributes-read : (p : ℕ) → read_counted ws (read_attribute bound ws nm ty) p ≡ map_reading (map (map_attribute nm)) (read_attributes bound ws p)
  unfolding read_attributes
  attributes-read p = counted-renamed ws (map_attribute nm) (read_one_attribute bound ws) (read_attribute bound ws nm ty) attribute-read p

  -- a walk where nothing is due
  abbrev pub done : Walk
  done = record { place = 0; role = Constraint; types = 0; parameters = 0; after = NoMore; kind = 0; fields = 0; cases = 0 }

  -- behind an opening
  abbrev pub behind : Opening → ℕ → Reading (List (Piece N))
  behind o n = ahead (own_pieces (map (renamed_token nm) o.tokens)) (left_of present bound ws nm ty (opened o n))

  opened-rest : (o : Opening) (n : ℕ) → left_of present bound ws nm ty (opened o n)
      ≡ many (read_parameter present bound ws nm ty) (parameter_pieces plain Constraint) o.parameters n & body_of present bound ws nm ty done o.after
  unfolding left_of body_of
  opened-rest o n = left-parameters bound ws nm ty Constraint 0 o.parameters _ n refl ∙ go o.after
    where
      go : (a : After) → many (read_parameter present bound ws nm ty) (parameter_pieces plain Constraint) o.parameters n & body_of present bound ws nm ty (opened o n) a
          ≡ many (read_parameter present bound ws nm ty) (parameter_pieces plain Constraint) o.parameters n & body_of present bound ws nm ty done a
      go (FieldList a) = refl
      go CaseList = refl
      go OneType = refl
      go NoMore = refl

  -- what follows a title is last, and g gives its pieces
  module _ {B : Type 0} (g : B → List (Piece N)) (k : ℕ) (after : After) (last : N → List (Attribute N) → N → List (TypeParamDecl N) → ℕ → Reading B)
      (h : (d : N) (l : List (Attribute N)) (x : N) (ps : List (TypeParamDecl N)) (s : ℕ) → map_reading g (last d l x ps s) ≡ ahead (heading present k d l x ps) (body_of present bound ws nm ty done after s)) where
    title-parameters : (d : N) (l : List (Attribute N)) (x : N) (n : ℕ) (y : Reading (List (TypeParamDecl N))) → ((ps : List (TypeParamDecl N)) (v : ℕ) → y ≡ got ps v → length ps ≡ n)
        → map_reading g (y >>= λ ps v. last d l x ps v) ≡ ahead (own_pieces (title_tokens k d l x n)) (map_reading (runs (parameter_pieces plain Constraint)) y & body_of present bound ws nm ty done after)
    unfolding map_reading ◌&◌ ahead heading
    title-parameters d l x n (got ps v) e =
        h d l x ps v
        ∙ ap (λ i. ahead (own_pieces (title_tokens k d l x i) ++ runs (parameter_pieces plain Constraint) ps) (body_of present bound ws nm ty done after v)) (e ps v refl)
        ∙ sym (ahead-twice (own_pieces (title_tokens k d l x n)) (runs (parameter_pieces plain Constraint) ps) (body_of present bound ws nm ty done after v))
    title-parameters d l x n (stop r) e = refl

    -- the opening of a title, read up to its number of parameters
    abbrev title_of : ℕ → List (Attribute ℕ) → ℕ → ℕ → Opening
    title_of d l x n = record { tokens = title_tokens k d l x n; parameters = n; after = after }

    title-count : (d : ℕ) (l : List (Attribute ℕ)) (x n u : ℕ)
        → map_reading g (read_list (read_parameter present bound ws nm ty) n u >>= λ ps v. last (nm d) (map (map_attribute nm) l) (nm x) ps v) ≡ behind (title_of d l x n) u
    unfolding many
    title-count d l x n u =
        title-parameters (nm d) (map (map_attribute nm) l) (nm x) n (read_list (read_parameter present bound ws nm ty) n u) (λ ps v e. list_length (read_parameter present bound ws nm ty) n u e)
        ∙ rw (title-renamed nm k d l x n, opened-rest (title_of d l x n) u)

    title-words : (d : ℕ) (l : List (Attribute ℕ)) (x : ℕ) (y : Reading ℕ)
        → map_reading g ((y >>= λ n u. read_list (read_parameter present bound ws nm ty) n u) >>= λ ps v. last (nm d) (map (map_attribute nm) l) (nm x) ps v)
        ≡ (y >>= λ n u. behind (title_of d l x n) u)
    unfolding map_reading
    title-words d l x (got n u) = title-count d l x n u
    title-words d l x (stop r) = refl

    entry-words : (d : ℕ) (l : List (Attribute ℕ)) (r : ℕ)
        → map_reading g (read_name bound ws nm ty r >>= λ x s. read_counted ws (read_parameter present bound ws nm ty) s >>= λ ps v. last (nm d) (map (map_attribute nm) l) x ps v)
        ≡ (read_entry bound ws r >>= λ e s. behind (title_of d l e.0 e.1) s)
    unfolding map_reading read_name read_counted read_entry
    entry-words d l r = go (read_below bound ws r)
      where
        flat : (x : ℕ) (y : Reading ℕ) → (y >>= λ n u. behind (title_of d l x n) u) ≡ (◌>>=◌ {B = ℕ × ℕ} y (λ n u. got (x, n) u) >>= λ e s. behind (title_of d l e.0 e.1) s)
        flat x (got n u) = refl
        flat x (stop i) = refl

        go : (y : Reading ℕ)
            → map_reading g ((y >>= λ x s. got (nm x) s) >>= λ x s. (read_word ws s >>= λ n u. read_list (read_parameter present bound ws nm ty) n u) >>= λ ps v. last (nm d) (map (map_attribute nm) l) x ps v)
            ≡ (◌>>=◌ {B = ℕ × ℕ} y (λ x s. read_word ws s >>= λ n u. got (x, n) u) >>= λ e s. behind (title_of d l e.0 e.1) s)
        go (got x s) = title-words d l x (read_word ws s) ∙ flat x (read_word ws s)
        go (stop i) = refl

    pub title-pieces : (p : ℕ)
        → map_reading g (read_name bound ws nm ty p >>= λ d q. read_counted ws (read_attribute bound ws nm ty) q >>= λ l r. read_name bound ws nm ty r >>= λ x s. read_counted ws (read_parameter present bound ws nm ty) s >>= λ ps v. last d l x ps v)
        ≡ (read_title bound ws k after p >>= λ o n. behind o n)
    unfolding map_reading read_name read_title
    title-pieces p = go (read_below bound ws p)
      where
        flat : (d : ℕ) (l : List (Attribute ℕ)) (y : Reading (ℕ × ℕ)) → (y >>= λ e s. behind (title_of d l e.0 e.1) s) ≡ ((y >>= λ e s. got (title_of d l e.0 e.1) s) >>= λ o n. behind o n)
        flat d l (got e s) = refl
        flat d l (stop i) = refl

        attributes : (d : ℕ) (y : Reading (List (Attribute ℕ)))
            → map_reading g (map_reading (map (map_attribute nm)) y >>= λ l r. read_name bound ws nm ty r >>= λ x s. read_counted ws (read_parameter present bound ws nm ty) s >>= λ ps v. last (nm d) l x ps v)
            ≡ ((y >>= λ l r. read_entry bound ws r >>= λ e s. got (title_of d l e.0 e.1) s) >>= λ o n. behind o n)
        attributes d (got l r) = entry-words d l r ∙ flat d l (read_entry bound ws r)
        attributes d (stop i) = refl

        go : (y : Reading ℕ)
            → map_reading g ((y >>= λ d q. got (nm d) q) >>= λ d q. read_counted ws (read_attribute bound ws nm ty) q >>= λ l r. read_name bound ws nm ty r >>= λ x s. read_counted ws (read_parameter present bound ws nm ty) s >>= λ ps v. last d l x ps v)
            ≡ ((y >>= λ d q. read_attributes bound ws q >>= λ l r. read_entry bound ws r >>= λ e s. got (title_of d l e.0 e.1) s) >>= λ o n. behind o n)
        go (got d q) = rw (attributes-read q) (attributes d (read_attributes bound ws q))
        go (stop i) = refl

module _ {N : Type 0} (bound : ℕ) (ws : List ℕ) (nm : ℕ → N) (ty : ℕ → Reading (Ty N)) where
  -- what a struct, an enum and a type synonym begin with, and what follows it
  abbrev pub title_then : {B : Type 0} → (N → List (Attribute N) → N → List (TypeParamDecl N) → ℕ → Reading B) → ℕ → Reading B
  title_then last p =
      read_name bound ws nm ty p >>= λ d q. read_counted ws (read_attribute bound ws nm ty) q >>= λ l r. read_name bound ws nm ty r >>= λ x s.
      read_counted ws (read_parameter present bound ws nm ty) s >>= λ ps v. last d l x ps v

  pub title-assoc : {B C : Type 0} (last : N → List (Attribute N) → N → List (TypeParamDecl N) → ℕ → Reading B) (g : B → ℕ → Reading C) (p : ℕ)
      → (title_then last p >>= g) ≡ title_then (λ d l x ps v. last d l x ps v >>= g) p
  title-assoc last g p =
      bind_assoc (read_name bound ws nm ty p) _ g
      ∙ bind-same (read_name bound ws nm ty p) _ _ λ d q e. bind_assoc (read_counted ws (read_attribute bound ws nm ty) q) _ g
      ∙ bind-same (read_counted ws (read_attribute bound ws nm ty) q) _ _ λ l r e. bind_assoc (read_name bound ws nm ty r) _ g
      ∙ bind-same (read_name bound ws nm ty r) _ _ λ x s e. bind_assoc (read_counted ws (read_parameter present bound ws nm ty) s) _ g

  abbrev after_start : Reading Opening → Reading (List (Piece N))
  after_start x = x >>= λ o n. behind bound ws nm ty o n

  struct-pieces : (p : ℕ) → map_reading (pieces present) (read_struct present bound ws nm ty p >>= λ s q. got (StructDecl s) q) ≡ after_start (read_title bound ws present.struct_head (FieldList StructField) p)
  unfolding read_struct pieces front rest ahead map_reading body_of
  struct-pieces p =
      ap (map_reading (pieces present)) (title-assoc (λ d l x ps s. read_fields bound ws nm ty s >>= λ fs t. got (record { doc_string = d; attributes = l; name = x; type_params = ps; fields = fs }) t) (λ s q. got (StructDecl s) q) p)
      ∙ title-pieces bound ws nm ty (pieces present) present.struct_head (FieldList StructField) _ (λ d l x ps s. go d l x ps (read_fields bound ws nm ty s) ∙ ap (ahead (heading present present.struct_head d l x ps)) (sym (body s))) p
    where
      body : (s : ℕ) → map_reading (fields_pieces StructField) (read_fields bound ws nm ty s) & many (read_case bound ws nm ty) case_pieces 0 ≡ map_reading (fields_pieces StructField) (read_fields bound ws nm ty s)
      body s = and_same (map_reading (fields_pieces StructField) (read_fields bound ws nm ty s)) _ (λ q. got [] q) (λ q. many-none (read_case bound ws nm ty) case_pieces 0 q refl) ∙ and_last (map_reading (fields_pieces StructField) (read_fields bound ws nm ty s))

      go : (d : N) (l : List (Attribute N)) (x : N) (ps : List (TypeParamDecl N)) (y : Reading (Fields N))
          → map_reading (pieces present) ((y >>= λ fs t. got (record { doc_string = d; attributes = l; name = x; type_params = ps; fields = fs }) t) >>= λ s q. got (StructDecl s) q)
          ≡ ahead (heading present present.struct_head d l x ps) (map_reading (fields_pieces StructField) y)
      go d l x ps (got fs t) = refl
      go d l x ps (stop r) = refl

  enum-pieces : (p : ℕ) → map_reading (pieces present) (read_enum present bound ws nm ty p >>= λ e q. got (EnumDecl e) q) ≡ after_start (read_title bound ws present.enum_head CaseList p)
  unfolding read_enum pieces front rest ahead map_reading body_of
  enum-pieces p =
      ap (map_reading (pieces present)) (title-assoc (λ d l x ps s. read_counted ws (read_case bound ws nm ty) s >>= λ cs t. got (record { doc_string = d; attributes = l; name = x; type_params = ps; variants = cs }) t) (λ e q. got (EnumDecl e) q) p)
      ∙ title-pieces bound ws nm ty (pieces present) present.enum_head CaseList _ (λ d l x ps s. go d l x ps (read_counted ws (read_case bound ws nm ty) s)) p
    where
      go : (d : N) (l : List (Attribute N)) (x : N) (ps : List (TypeParamDecl N)) (y : Reading (List (EnumCase N)))
          → map_reading (pieces present) ((y >>= λ cs t. got (record { doc_string = d; attributes = l; name = x; type_params = ps; variants = cs }) t) >>= λ e q. got (EnumDecl e) q)
          ≡ ahead (heading present present.enum_head d l x ps) (map_reading (counted case_pieces) y)
      go d l x ps (got cs t) = refl
      go d l x ps (stop r) = refl

  synonym-pieces : (p : ℕ) → map_reading (pieces present) (read_type_synonym present bound ws nm ty p >>= λ t q. got (TypeDecl t) q) ≡ after_start (read_title bound ws present.synonym_head OneType p)
  unfolding read_type_synonym pieces front rest ahead map_reading body_of
  synonym-pieces p =
      ap (map_reading (pieces present)) (title-assoc (λ d l x ps s. ty s >>= λ t u. got (record { doc_string = d; attributes = l; name = x; type_params = ps; tpe = t }) u) (λ t q. got (TypeDecl t) q) p)
      ∙ title-pieces bound ws nm ty (pieces present) present.synonym_head OneType _ (λ d l x ps s. go d l x ps (ty s)) p
    where
      go : (d : N) (l : List (Attribute N)) (x : N) (ps : List (TypeParamDecl N)) (y : Reading (Ty N))
          → map_reading (pieces present) ((y >>= λ t u. got (record { doc_string = d; attributes = l; name = x; type_params = ps; tpe = t }) u) >>= λ t q. got (TypeDecl t) q)
          ≡ ahead (heading present present.synonym_head d l x ps) (map_reading (type_piece Aliased) y)
      go d l x ps (got t u) = refl
      go d l x ps (stop r) = refl

  nothing_left : (o : Opening) (n : ℕ) → o.parameters ≡ 0 → o.after ≡ NoMore → left_of present bound ws nm ty (opened o n) ≡ got [] n
  unfolding body_of
  nothing_left o n e a =
      rest-after bound ws nm ty (opened o n) refl e a ∙ members-cases bound ws nm ty Constraint 0 0 0 n refl ∙ many-none (read_case bound ws nm ty) case_pieces 0 n refl

  use-renamed : (v : ℕ) (x : PathAt) → map (renamed_token nm) (use_tokens present.use_head (record { visibility = visibility_of v; path = path_of ws (λ i. i) x })) ≡ use_tokens present.use_head (record { visibility = visibility_of v; path = path_of ws nm x })
  unfolding use_tokens renamed_token
  use-renamed v x = rw (path-renamed nm ws x)

  use-piece : (v : ℕ) (x : PathAt) (r : ℕ) → got (pieces present (UseDecl (record { visibility = visibility_of v; path = path_of ws nm x }))) r
      ≡ behind bound ws nm ty (record { tokens = use_tokens present.use_head (record { visibility = visibility_of v; path = path_of ws (λ i. i) x }); parameters = 0; after = NoMore }) r
  unfolding pieces front rest ahead map_reading
  use-piece v x r = rw (use-renamed v x, nothing_left (record { tokens = use_tokens present.use_head (record { visibility = visibility_of v; path = path_of ws (λ i. i) x }); parameters = 0; after = NoMore }) r refl refl)

  use-pieces : (p : ℕ) → map_reading (pieces present) (read_use bound ws nm ty p >>= λ u q. got (UseDecl u) q) ≡ after_start (read_using present.use_head bound ws p)
  unfolding read_use read_visibility read_using map_reading
  use-pieces p = go (read_below 2 ws p)
    where
      path : (v : ℕ) (y : Reading PathAt)
          → map_reading (pieces present) ((y >>= λ x r. got (record { visibility = visibility_of v; path = path_of ws nm x }) r) >>= λ u q. got (UseDecl u) q)
          ≡ ((y >>= λ x r. got (record { tokens = use_tokens present.use_head (record { visibility = visibility_of v; path = path_of ws (λ i. i) x }); parameters = 0; after = NoMore }) r) >>= λ o n. behind bound ws nm ty o n)
      path v (got x r) = use-piece v x r
      path v (stop i) = refl

      go : (y : Reading ℕ)
          → map_reading (pieces present) (((y >>= λ v q. got (visibility_of v) q) >>= λ v q. read_path bound ws q >>= λ x r. got (record { visibility = v; path = path_of ws nm x }) r) >>= λ u q. got (UseDecl u) q)
          ≡ ((y >>= λ v q. read_path bound ws q >>= λ x r. got (record { tokens = use_tokens present.use_head (record { visibility = visibility_of v; path = path_of ws (λ i. i) x }); parameters = 0; after = NoMore }) r) >>= λ o n. behind bound ws nm ty o n)
      go (got v q) = path v (read_path bound ws q)
      go (stop i) = refl

  -- a declaration's pieces: the own words of its opening, and what is left to the walk behind it
  pub declaration-pieces : (at : ℕ) → map_reading (pieces present) (read_declaration present bound ws nm ty at)
      ≡ (read_opening present bound ws at >>= λ o n. ahead (own_pieces (map (renamed_token nm) o.tokens)) (left_of present bound ws nm ty (opened o n)))
  unfolding read_declaration declaration_after read_opening opening_after map_reading
  declaration-pieces at = go (read_word ws at)
    where
      after : (w p : ℕ) (a b c d : Bool)
          → map_reading (pieces present) (pick a (read_struct present bound ws nm ty p >>= λ s q. got (StructDecl s) q) (pick b (read_enum present bound ws nm ty p >>= λ e q. got (EnumDecl e) q) (pick c (read_type_synonym present bound ws nm ty p >>= λ t q. got (TypeDecl t) q) (pick d (read_use bound ws nm ty p >>= λ u q. got (UseDecl u) q) (stop UnknownWord)))))
          ≡ after_start (pick a (read_title bound ws present.struct_head (FieldList StructField) p) (pick b (read_title bound ws present.enum_head CaseList p) (pick c (read_title bound ws present.synonym_head OneType p) (pick d (read_using present.use_head bound ws p) (stop UnknownWord)))))
      after w p true b c d = struct-pieces p
      after w p false true c d = enum-pieces p
      after w p false false true d = synonym-pieces p
      after w p false false false true = use-pieces p
      after w p false false false false = refl

      go : (y : Reading ℕ) → map_reading (pieces present) (y >>= λ w p. declaration_after present bound ws nm ty w p) ≡ after_start (y >>= λ w p. opening_after present bound ws w p)
      go (got w p) = after w p (eqb w present.struct_head) (eqb w present.enum_head) (eqb w present.synonym_head) (eqb w present.use_head)
      go (stop r) = refl
