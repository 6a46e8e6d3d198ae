-- A declaration that was read stands in the words by its own encoding.
use Prim.Native.Nat.{ℕ, zero, suc, ◌+◌, ◌<◌}
use mathlib.Core.Path.{◌≡◌, refl, ap, sym, ◌∙◌}
use mathlib.Core.Bool.{Bool, true, false}
use mathlib.Core.List.{List, [], ◌∷◌, ◌++◌, map, map-append, append-nil, append_assoc}
use native.Mathlib.Omega.{arith}
use borrow.Author.Tests.{eqb-true}
use lib.Dec.{eqb}
use lib.ListN.{length}
use Rattle.rast.specs.Tree.{Ty}
use Rattle.rast.specs.Declaration.{Attribute, TypeParamDecl, Fields, NamedFields, NamelessFields, EnumCase, Use, Declaration, StructDecl, EnumDecl, TypeDecl, UseDecl}
use Rattle.encoding.specs.declared.Refusal.TheVariants.{UnknownWord}
use Rattle.encoding.specs.Refusals.{pick}
use Rattle.encoding.specs.Reading.{Reading, got, stop, ◌>>=◌, read_word, read_below}
use Rattle.encoding.specs.Tables.{name_count}
use Rattle.encoding.specs.Heads.{read_path}
use Rattle.encoding.specs.Types.{path_of}
use Rattle.encoding.specs.Forms.{Form, present}
use Rattle.encoding.specs.Declarations.{visibility_of, read_counted, read_visibility, read_name, read_attribute, read_parameter, read_formal, read_field, read_nameless_field, read_fields, read_case, read_struct, read_enum, read_type_synonym, read_use, declaration_after, read_declaration}
use Rattle.encoding.proofs.Tables.{impossible}
use Rattle.encoding.proofs.Inside.{word-there, below-there}
use Rattle.encoding.proofs.Types.{bind-got, made_got, made₂-got}
use Rattle.tree_words.specs.Encode.{Token, word, name, token_word, path_tokens, tokens, encode}
use Rattle.tree_words.specs.Numbered.{tree_at}
use Rattle.tree_words.specs.Runs.{Run}
use Rattle.tree_words.proofs.Spans.{Stands, path-stands, type-stands}
use Rattle.declaration_walk.specs.Pieces.{Piece, own, visibility_word, runs, attributes_tokens, title_tokens, use_tokens, own_pieces, counted, type_piece, parameter_pieces, field_pieces, nameless_pieces, fields_pieces, case_pieces, heading, front, rest, pieces, piece_tokens, declaration_tokens, encode_declaration}
use Rattle.declaration_walk.proofs.Steps.{below_word, visibility-word}
use Rattle.declaration_walk.proofs.Openings.{title_then, title-assoc}
use Rattle.declaration_walk.proofs.OpeningRuns.{Spelt, spelt-inside, spelt-then, spelt-word, spelt-as, counted-spells, name-spells, attributes-spell}
use Rattle.declaration_walk.proofs.RenamedReading.{numbered_at}
use Rattle.encoding.specs.Forms.{plain}
use Rattle.declaration_walk.specs.declared.Role.{Role}
use Rattle.declaration_walk.specs.declared.Role.TheVariants.{Constraint, StructField, CaseField, Aliased}

-- ---- the words of pieces

unfoldable pub spell : List (Piece ℕ) → List ℕ
spell ps = map token_word (runs piece_tokens ps)

pub runs_append : {A B : Type 0} (f : A → List B) (xs ys : List A) → runs f (xs ++ ys) ≡ runs f xs ++ runs f ys
unfolding runs
runs_append f [] ys = refl
runs_append f (x ∷ xs) ys = ap (λ l. f x ++ l) (runs_append f xs ys) ∙ sym (append_assoc (f x) (runs f xs) (runs f ys))

spell-append : (ps qs : List (Piece ℕ)) → spell (ps ++ qs) ≡ spell ps ++ spell qs
unfolding spell
spell-append ps qs = ap (map token_word) (runs_append piece_tokens ps qs) ∙ map-append token_word (runs piece_tokens ps) (runs piece_tokens qs)

pub spell-own : (k : Token ℕ) (ps : List (Piece ℕ)) → spell (own k ∷ ps) ≡ token_word k ∷ spell ps
unfolding spell runs piece_tokens
spell-own k ps = refl

spell-owned : (ks : List (Token ℕ)) → spell (own_pieces ks) ≡ map token_word ks
unfolding spell runs piece_tokens
spell-owned [] = refl
spell-owned (k ∷ ks) = ap (◌∷◌ (token_word k)) (spell-owned ks)

pub spell-type : (a : Role) (t : Ty ℕ) → spell (type_piece a t) ≡ encode t
unfolding spell runs piece_tokens encode
spell-type a t = ap (map token_word) (append-nil (tokens t))

spell-runs : {A : Type 0} (f : A → List (Piece ℕ)) (xs : List A) → spell (runs f xs) ≡ runs (λ x. spell (f x)) xs
unfolding spell runs
spell-runs f [] = refl
spell-runs f (x ∷ xs) = spell-append (f x) (runs f xs) ∙ ap (λ l. spell (f x) ++ l) (spell-runs f xs)

pub spell-counted : {A : Type 0} (f : A → List (Piece ℕ)) (xs : List A) → spell (counted f xs) ≡ length xs ∷ runs (λ x. spell (f x)) xs
unfolding counted token_word
spell-counted f xs = spell-own (word (length xs)) (runs f xs) ∙ ap (◌∷◌ (length xs)) (spell-runs f xs)

-- the words of a title and of the parameters behind it
heading-words : (k d : ℕ) (l : List (Attribute ℕ)) (x : ℕ) (ps : List (TypeParamDecl ℕ))
    → (k ∷ d ∷ []) ++ (map token_word (attributes_tokens l) ++ (x ∷ spell (counted (parameter_pieces plain Constraint) ps))) ≡ spell (heading present k d l x ps)
unfolding heading title_tokens counted token_word
heading-words k d l x ps =
    let a = map token_word (attributes_tokens l) in
    let b : spell (own_pieces (title_tokens k d l x (length ps))) ≡ k ∷ d ∷ (a ++ (x ∷ length ps ∷ [])) = spell-owned (title_tokens k d l x (length ps)) ∙ ap (λ (i : List ℕ). k ∷ d ∷ i) (map-append token_word (attributes_tokens l) (name x ∷ word (length ps) ∷ [])) in
    ap (λ i. k ∷ d ∷ (a ++ (x ∷ i))) (spell-own (word (length ps)) (runs (parameter_pieces plain Constraint) ps))
    ∙ ap (λ i. k ∷ d ∷ i) (sym (append_assoc a (x ∷ length ps ∷ []) (spell (runs (parameter_pieces plain Constraint) ps))))
    ∙ ap (λ i. i ++ spell (runs (parameter_pieces plain Constraint) ps)) (sym b)
    ∙ sym (spell-append (own_pieces (title_tokens k d l x (length ps))) (runs (parameter_pieces plain Constraint) ps))

declaration-words : (d : Declaration ℕ) → encode_declaration present d ≡ spell (front present d) ++ spell (rest d)
unfolding encode_declaration declaration_tokens spell pieces
declaration-words d = spell-append (front present d) (rest d)

use-words : (u : Use ℕ) → encode_declaration present (UseDecl u) ≡ map token_word (use_tokens present.use_head u)
unfolding front rest spell runs
use-words u = declaration-words (UseDecl u) ∙ append-nil (spell (own_pieces (use_tokens present.use_head u))) ∙ spell-owned (use_tokens present.use_head u)

-- the same in any form: the words of a title and of the parameters behind it, and those of a whole declaration
module _ (form : Form) where
  pub encoded-heading : (k d : ℕ) (l : List (Attribute ℕ)) (x : ℕ) (ps : List (TypeParamDecl ℕ))
      → (k ∷ d ∷ []) ++ (map token_word (attributes_tokens l) ++ (x ∷ spell (counted (parameter_pieces form.entries Constraint) ps))) ≡ spell (heading form k d l x ps)
  unfolding heading title_tokens counted token_word
  encoded-heading k d l x ps =
      let each = parameter_pieces form.entries Constraint in
      let a = map token_word (attributes_tokens l) in
      let b : spell (own_pieces (title_tokens k d l x (length ps))) ≡ k ∷ d ∷ (a ++ (x ∷ length ps ∷ [])) = spell-owned (title_tokens k d l x (length ps)) ∙ ap (λ (i : List ℕ). k ∷ d ∷ i) (map-append token_word (attributes_tokens l) (name x ∷ word (length ps) ∷ [])) in
      ap (λ i. k ∷ d ∷ (a ++ (x ∷ i))) (spell-own (word (length ps)) (runs each ps))
      ∙ ap (λ i. k ∷ d ∷ i) (sym (append_assoc a (x ∷ length ps ∷ []) (spell (runs each ps))))
      ∙ ap (λ i. i ++ spell (runs each ps)) (sym b)
      ∙ sym (spell-append (own_pieces (title_tokens k d l x (length ps))) (runs each ps))

  pub encoded-declaration : (d : Declaration ℕ) → encode_declaration form d ≡ spell (front form d) ++ spell (rest d)
  unfolding encode_declaration declaration_tokens spell pieces
  encoded-declaration d = spell-append (front form d) (rest d)

  pub encoded-use : (u : Use ℕ) → encode_declaration form (UseDecl u) ≡ map token_word (use_tokens form.use_head u)
  unfolding front rest spell runs
  encoded-use u = encoded-declaration (UseDecl u) ∙ append-nil (spell (own_pieces (use_tokens form.use_head u))) ∙ spell-owned (use_tokens form.use_head u)

-- ---- readings

module _ (ws : List ℕ) where
  -- two things read, and something made of them
  two-spell : {A B C : Type 0} (code₁ : A → List ℕ) (code₂ : B → List ℕ) (f : ℕ → Reading A) (g : ℕ → Reading B) (make : A → B → C) (all : C → List ℕ)
      → ((a : A) (b : B) → code₁ a ++ code₂ b ≡ all (make a b)) → Stands code₁ ws f → Stands code₂ ws g → Stands all ws (λ p. f p >>= λ a q. g q >>= λ b r. got (make a b) r)
  two-spell code₁ code₂ f g make all k h i p c n l e =
      let m = made₂-got (f p) g make e in
      let s = h p m.left m.middle l m.reads in
      let t = i m.middle m.right n (spelt-inside ws s) m.reads₂ in
      spelt-as ws (k m.left m.right ∙ ap all (sym m.made)) (spelt-then ws (code₁ m.left) (code₂ m.right) s t)

  counted-spell : {A : Type 0} (f : A → List (Piece ℕ)) (item : ℕ → Reading A) → Stands (λ x. spell (f x)) ws item → Stands (λ xs. spell (counted f xs)) ws (read_counted ws item)
  counted-spell f item h p xs n l e = spelt-as ws (sym (spell-counted f xs)) (counted-spells ws (λ x. spell (f x)) item h p xs n l e)

  visibility-spells : Stands (λ v. visibility_word v ∷ []) ws (read_visibility ws)
  unfolding read_visibility
  visibility-spells p v n l e =
      let m = made_got (read_below 2 ws p) visibility_of e in
      let w = visibility-word m.value (below-there 2 ws p m.reads).below in
      spelt-as ws (ap (λ i. i ∷ []) (sym w) ∙ ap (λ i. visibility_word i ∷ []) (sym m.made)) (spelt-word ws (below_word 2 ws p m.reads))

  module _ (bound : ℕ) (ty : ℕ → Reading (Ty ℕ)) (h : (a : Role) → Stands (λ t. spell (type_piece a t)) ws ty) where
    abbrev nm : ℕ → ℕ
    nm x = x

    named : Stands (λ x. x ∷ []) ws (read_name bound ws nm ty)
    named = name-spells ws bound ty

    parameter-spells : Stands (λ x. spell (parameter_pieces plain Constraint x)) ws (read_parameter present bound ws nm ty)
    unfolding read_parameter parameter_pieces token_word
    parameter-spells =
        two-spell (λ x. x ∷ []) (λ ts. spell (counted (type_piece Constraint) ts)) (read_name bound ws nm ty) (read_counted ws ty) (λ x ts. record { name = x; constraints = ts }) (λ x. spell (parameter_pieces plain Constraint x))
        (λ x ts. sym (spell-own (name x) (counted (type_piece Constraint) ts))) named (counted-spell (type_piece Constraint) ty (h Constraint))

    formal-spells : (a : Role) → Stands (λ x. x.name ∷ spell (type_piece a x.tpe)) ws (read_formal bound ws nm ty)
    unfolding read_formal
    formal-spells a = two-spell (λ x. x ∷ []) (λ t. spell (type_piece a t)) (read_name bound ws nm ty) ty (λ x t. record { name = x; tpe = t }) _ (λ x t. refl) named (h a)

    field-spells : (a : Role) → Stands (λ x. spell (field_pieces a x)) ws (read_field bound ws nm ty)
    unfolding read_field field_pieces token_word
    field-spells a =
        two-spell (λ v. visibility_word v ∷ []) (λ x. x.name ∷ spell (type_piece a x.tpe)) (read_visibility ws) (read_formal bound ws nm ty) (λ v x. record { visibility = v; formal = x }) (λ x. spell (field_pieces a x))
        (λ v x. ap (◌∷◌ (visibility_word v)) (sym (spell-own (name x.name) (type_piece a x.tpe))) ∙ sym (spell-own (word (visibility_word v)) (own (name x.name) ∷ type_piece a x.tpe)))
        visibility-spells (formal-spells a)

    nameless-spells : (a : Role) → Stands (λ x. spell (nameless_pieces a x)) ws (read_nameless_field bound ws nm ty)
    unfolding read_nameless_field nameless_pieces token_word
    nameless-spells a =
        two-spell (λ v. visibility_word v ∷ []) (λ t. spell (type_piece a t)) (read_visibility ws) ty (λ v t. record { visibility = v; tpe = t }) (λ x. spell (nameless_pieces a x))
        (λ v t. sym (spell-own (word (visibility_word v)) (type_piece a t))) visibility-spells (h a)

    fields-spell : (a : Role) → Stands (λ x. spell (fields_pieces a x)) ws (read_fields bound ws nm ty)
    unfolding read_fields fields_pieces token_word
    fields-spell a p x n l e =
        let r = bind-got (read_below 2 ws p) _ e in
        go r.value r.end (below-there 2 ws p r.first).below (spelt-word ws (below_word 2 ws p r.first)) r.rest
      where
        go : (k q : ℕ) → k < 2 → Spelt ws p (k ∷ []) q
            → pick (eqb k 0) (read_counted ws (read_field bound ws nm ty) q >>= λ xs r. got (NamedFields xs) r) (read_counted ws (read_nameless_field bound ws nm ty) q >>= λ xs r. got (NamelessFields xs) r) ≡ got x n
            → Spelt ws p (spell (fields_pieces a x)) n
        go zero q b s e =
            let m = made_got (read_counted ws (read_field bound ws nm ty) q) NamedFields e in
            let t = counted-spell (field_pieces a) (read_field bound ws nm ty) (field-spells a) q m.value n (spelt-inside ws s) m.reads in
            spelt-as ws (sym (spell-own (word 0) (counted (field_pieces a) m.value)) ∙ ap (λ y. spell (fields_pieces a y)) (sym m.made)) (spelt-then ws (0 ∷ []) (spell (counted (field_pieces a) m.value)) s t)
        go (suc zero) q b s e =
            let m = made_got (read_counted ws (read_nameless_field bound ws nm ty) q) NamelessFields e in
            let t = counted-spell (nameless_pieces a) (read_nameless_field bound ws nm ty) (nameless-spells a) q m.value n (spelt-inside ws s) m.reads in
            spelt-as ws (sym (spell-own (word 1) (counted (nameless_pieces a) m.value)) ∙ ap (λ y. spell (fields_pieces a y)) (sym m.made)) (spelt-then ws (1 ∷ []) (spell (counted (nameless_pieces a) m.value)) s t)
        go (suc (suc k)) q b s e = absurd (let z : ⊥ = omega arith in z)

    case-spells : Stands (λ x. spell (case_pieces x)) ws (read_case bound ws nm ty)
    unfolding read_case case_pieces token_word
    case-spells p c n l e =
        let r = bind-got (read_name bound ws nm ty p) _ e in
        let s = named p r.value r.end l r.first in
        let m = made₂-got (read_name bound ws nm ty r.end) (read_fields bound ws nm ty) (λ x fs. record { doc_string = r.value; name = x; fields = fs }) r.rest in
        let t = named r.end m.left m.middle (spelt-inside ws s) m.reads in
        let u = fields-spell CaseField m.middle m.right n (spelt-inside ws t) m.reads₂ in
        spelt-as ws (words r.value m.left m.right ∙ ap (λ (x : EnumCase ℕ). spell (case_pieces x)) (sym m.made))
        (spelt-then ws (r.value ∷ []) (m.left ∷ spell (fields_pieces CaseField m.right)) s (spelt-then ws (m.left ∷ []) (spell (fields_pieces CaseField m.right)) t u))
      where
        words : (d x : ℕ) (fs : Fields ℕ) → d ∷ x ∷ spell (fields_pieces CaseField fs) ≡ spell (own (name d) ∷ own (name x) ∷ fields_pieces CaseField fs)
        words d x fs = ap (◌∷◌ d) (sym (spell-own (name x) (fields_pieces CaseField fs))) ∙ sym (spell-own (name d) (own (name x) ∷ fields_pieces CaseField fs))

    -- ---- declarations

    module _ (at : ℕ) (d : Declaration ℕ) (n : ℕ) where
      -- a title and the parameters behind it
      title-spells : (k p : ℕ) → Spelt ws at (k ∷ []) p → (last : ℕ → List (Attribute ℕ) → ℕ → List (TypeParamDecl ℕ) → ℕ → Reading (Declaration ℕ)) → title_then bound ws nm ty last p ≡ got d n
          → ((doc : ℕ) (l : List (Attribute ℕ)) (x : ℕ) (ps : List (TypeParamDecl ℕ)) (v : ℕ) → Spelt ws at (spell (heading present k doc l x ps)) v → last doc l x ps v ≡ got d n → Spelt ws at (encode_declaration present d) n)
          → Spelt ws at (encode_declaration present d) n
      title-spells k p h last e f =
          let r = bind-got (read_name bound ws nm ty p) _ e in
          let a = bind-got (read_counted ws (read_attribute bound ws nm ty) r.end) _ r.rest in
          let b = bind-got (read_name bound ws nm ty a.end) _ a.rest in
          let c = bind-got (read_counted ws (read_parameter present bound ws nm ty) b.end) _ b.rest in
          let s₁ = named p r.value r.end (spelt-inside ws h) r.first in
          let s₂ = attributes-spell ws bound ty r.end a.value a.end (spelt-inside ws s₁) a.first in
          let s₃ = named a.end b.value b.end (spelt-inside ws s₂) b.first in
          let s₄ = counted-spell (parameter_pieces plain Constraint) (read_parameter present bound ws nm ty) parameter-spells b.end c.value c.end (spelt-inside ws s₃) c.first in
          f r.value a.value b.value c.value c.end (whole r.value a.value b.value c.value {v = c.end} h s₁ s₂ s₃ s₄) c.rest
        where
          whole : (doc : ℕ) (l : List (Attribute ℕ)) (x : ℕ) (ps : List (TypeParamDecl ℕ)) {q r s v : ℕ} → Spelt ws at (k ∷ []) p → Spelt ws p (doc ∷ []) q → Spelt ws q (map token_word (attributes_tokens l)) r
              → Spelt ws r (x ∷ []) s → Spelt ws s (spell (counted (parameter_pieces plain Constraint) ps)) v → Spelt ws at (spell (heading present k doc l x ps)) v
          whole doc l x ps s₀ s₁ s₂ s₃ s₄ =
              spelt-as ws (heading-words k doc l x ps)
              (spelt-then ws (k ∷ doc ∷ []) _ (spelt-then ws (k ∷ []) (doc ∷ []) s₀ s₁)
              (spelt-then ws (map token_word (attributes_tokens l)) _ s₂ (spelt-then ws (x ∷ []) (spell (counted (parameter_pieces plain Constraint) ps)) s₃ s₄)))

      -- what follows them
      rest-spells : {A S : Type 0} (pre : List (Piece ℕ)) (code : A → List (Piece ℕ)) (f : ℕ → Reading A) (make : A → S) (c : S → Declaration ℕ) → Stands (λ a. spell (code a)) ws f
          → ((a : A) → (front present (c (make a)) ≡ pre) × (rest (c (make a)) ≡ code a)) → (v : ℕ) → Spelt ws at (spell pre) v → ((f v >>= λ a t. got (make a) t) >>= λ s q. got (c s) q) ≡ got d n
          → Spelt ws at (encode_declaration present d) n
      rest-spells pre code f make c k i v s e =
          let m = made_got (f v >>= λ a t. got (make a) t) c e in
          let o = made_got (f v) make m.reads in
          let t = k v o.value n (spelt-inside ws s) o.reads in
          let g : d ≡ c (make o.value) = m.made ∙ ap c o.made in
          let j = i o.value in
          let w : encode_declaration present (c (make o.value)) ≡ spell pre ++ spell (code o.value) = declaration-words (c (make o.value)) ∙ ap (λ l. spell l ++ spell (rest (c (make o.value)))) j.0 ∙ ap (λ l. spell pre ++ spell l) j.1 in
          spelt-as ws (sym w ∙ ap (encode_declaration present) (sym g)) (spelt-then ws (spell pre) (spell (code o.value)) s t)

      struct-spells : (p : ℕ) → Spelt ws at (present.struct_head ∷ []) p → (read_struct present bound ws nm ty p >>= λ s q. got (StructDecl s) q) ≡ got d n → Spelt ws at (encode_declaration present d) n
      unfolding read_struct front rest
      struct-spells p h e =
          title-spells present.struct_head p h _ (sym (title-assoc bound ws nm ty (λ doc l x ps s. read_fields bound ws nm ty s >>= λ fs t. got (record { doc_string = doc; attributes = l; name = x; type_params = ps; fields = fs }) t) (λ s q. got (StructDecl s) q) p) ∙ e)
          λ doc l x ps v s g.
          rest-spells (heading present present.struct_head doc l x ps) (fields_pieces StructField) (read_fields bound ws nm ty) (λ fs. record { doc_string = doc; attributes = l; name = x; type_params = ps; fields = fs }) StructDecl (fields-spell StructField)
          (λ fs. (refl, refl)) v s g

      enum-spells : (p : ℕ) → Spelt ws at (present.enum_head ∷ []) p → (read_enum present bound ws nm ty p >>= λ s q. got (EnumDecl s) q) ≡ got d n → Spelt ws at (encode_declaration present d) n
      unfolding read_enum front rest
      enum-spells p h e =
          title-spells present.enum_head p h _ (sym (title-assoc bound ws nm ty (λ doc l x ps s. read_counted ws (read_case bound ws nm ty) s >>= λ cs t. got (record { doc_string = doc; attributes = l; name = x; type_params = ps; variants = cs }) t) (λ s q. got (EnumDecl s) q) p) ∙ e)
          λ doc l x ps v s g.
          rest-spells (heading present present.enum_head doc l x ps) (counted case_pieces) (read_counted ws (read_case bound ws nm ty)) (λ cs. record { doc_string = doc; attributes = l; name = x; type_params = ps; variants = cs }) EnumDecl
          (counted-spell case_pieces (read_case bound ws nm ty) case-spells) (λ cs. (refl, refl)) v s g

      synonym-spells : (p : ℕ) → Spelt ws at (present.synonym_head ∷ []) p → (read_type_synonym present bound ws nm ty p >>= λ s q. got (TypeDecl s) q) ≡ got d n → Spelt ws at (encode_declaration present d) n
      unfolding read_type_synonym front rest
      synonym-spells p h' e =
          title-spells present.synonym_head p h' _ (sym (title-assoc bound ws nm ty (λ doc l x ps s. ty s >>= λ t u. got (record { doc_string = doc; attributes = l; name = x; type_params = ps; tpe = t }) u) (λ s q. got (TypeDecl s) q) p) ∙ e)
          λ doc l x ps v s g.
          rest-spells (heading present present.synonym_head doc l x ps) (type_piece Aliased) ty (λ t. record { doc_string = doc; attributes = l; name = x; type_params = ps; tpe = t }) TypeDecl (h Aliased) (λ t. (refl, refl)) v s g

      use-spells : (p : ℕ) → Spelt ws at (present.use_head ∷ []) p → (read_use bound ws nm ty p >>= λ s q. got (UseDecl s) q) ≡ got d n → Spelt ws at (encode_declaration present d) n
      unfolding read_use use_tokens token_word
      use-spells p s e =
          let m = made_got (read_use bound ws nm ty p) UseDecl e in
          let o = made₂-got (read_visibility ws p) (read_path bound ws) (λ v x. record { visibility = v; path = path_of ws nm x }) m.reads in
          let t = visibility-spells p o.left o.middle (spelt-inside ws s) o.reads in
          let u = path-stands bound ws o.middle o.right n (spelt-inside ws t) o.reads₂ in
          let g : d ≡ UseDecl (record { visibility = o.left; path = path_of ws nm o.right }) = m.made ∙ ap UseDecl o.made in
          spelt-as ws (sym (use-words (record { visibility = o.left; path = path_of ws nm o.right })) ∙ ap (encode_declaration present) (sym g))
          (spelt-then ws (present.use_head ∷ []) _ s (spelt-then ws (visibility_word o.left ∷ []) (map token_word (path_tokens (path_of ws nm o.right))) t u))

      declaration-spells : read_declaration present bound ws nm ty at ≡ got d n → Spelt ws at (encode_declaration present d) n
      unfolding read_declaration declaration_after
      declaration-spells e =
          let r = bind-got (read_word ws at) _ e in
          go r.value r.end (spelt-word ws (word-there ws at r.first)) (eqb r.value present.struct_head) (eqb-true r.value present.struct_head) (eqb r.value present.enum_head) (eqb-true r.value present.enum_head)
          (eqb r.value present.synonym_head) (eqb-true r.value present.synonym_head) (eqb r.value present.use_head) (eqb-true r.value present.use_head) r.rest
        where
          go : (w p : ℕ) → Spelt ws at (w ∷ []) p → (a : Bool) → (a ≡ true → w ≡ present.struct_head) → (b : Bool) → (b ≡ true → w ≡ present.enum_head) → (c : Bool) → (c ≡ true → w ≡ present.synonym_head)
              → (k : Bool) → (k ≡ true → w ≡ present.use_head)
              → pick a (read_struct present bound ws nm ty p >>= λ s q. got (StructDecl s) q) (pick b (read_enum present bound ws nm ty p >>= λ s q. got (EnumDecl s) q)
              (pick c (read_type_synonym present bound ws nm ty p >>= λ s q. got (TypeDecl s) q) (pick k (read_use bound ws nm ty p >>= λ s q. got (UseDecl s) q) (stop UnknownWord)))) ≡ got d n
              → Spelt ws at (encode_declaration present d) n
          go w p s true ha b hb c hc k hk e = struct-spells p (spelt-as ws (ap (λ i. i ∷ []) (ha refl)) s) e
          go w p s false ha true hb c hc k hk e = enum-spells p (spelt-as ws (ap (λ i. i ∷ []) (hb refl)) s) e
          go w p s false ha false hb true hc k hk e = synonym-spells p (spelt-as ws (ap (λ i. i ∷ []) (hc refl)) s) e
          go w p s false ha false hb false hc true hk e = use-spells p (spelt-as ws (ap (λ i. i ∷ []) (hk refl)) s) e
          go w p s false ha false hb false hc false hk e = impossible (cc)

-- a declaration stands in the words by its encoding, and ends behind it
pub declaration-run : (ws pairs : List ℕ) (at : ℕ) {d : Declaration ℕ} {n : ℕ} → numbered_at ws pairs at ≡ got d n → Run ws at (encode_declaration present d) × (n ≡ at + length (encode_declaration present d))
declaration-run ws pairs at {d} {n} e = declaration-spells ws (name_count pairs) (tree_at ws pairs) types at d n e
  where
    types : (a : Role) → Stands (λ t. spell (type_piece a t)) ws (tree_at ws pairs)
    types a p t m l e = spelt-as ws (sym (spell-type a t)) (type-stands (name_count pairs) ws 64 p t m l e)
