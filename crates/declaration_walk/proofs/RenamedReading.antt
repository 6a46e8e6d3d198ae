-- Reading a declaration with other names is reading it and then renaming.
use Prim.Native.Nat.{ℕ}
use mathlib.Core.Path.{◌≡◌, refl, ap, sym, ◌∙◌}
use mathlib.Core.Bool.{Bool, true, false}
use mathlib.Core.List.{List, map}
use lib.Dec.{eqb}
use Rattle.rast.specs.Bytes.{Bytes}
use Rattle.rast.specs.Tree.{Ty}
use Rattle.rast.specs.Declaration.{Visibility, Attribute, TypeParamDecl, NamedFields, NamelessFields, Declaration, StructDecl, EnumDecl, TypeDecl, UseDecl}
use Rattle.encoding.specs.declared.Refusal.TheVariants.{UnknownWord}
use Rattle.encoding.specs.declared.PathAt.{PathAt}
use Rattle.encoding.specs.Refusals.{pick}
use Rattle.encoding.specs.Reading.{Reading, got, stop, ◌>>=◌, read_word, read_below}
use Rattle.encoding.specs.Scans.{map_reading}
use Rattle.encoding.specs.Tables.{name_bytes, name_count}
use Rattle.encoding.specs.Heads.{read_path}
use Rattle.encoding.specs.Types.{path_of, type_at}
use Rattle.encoding.specs.Forms.{present}
use Rattle.encoding.specs.Declarations.{read_counted, read_visibility, read_name, read_attribute, read_parameter, read_formal, read_field, read_nameless_field, read_fields, read_case, read_struct, read_enum, read_type_synonym, read_use, declaration_after, read_declaration, declaration_at}
use Rattle.encoding.proofs.Reading.{map_same}
use Rattle.tree_words.specs.Renamed.{renamed}
use Rattle.tree_words.specs.Numbered.{tree_at}
use Rattle.tree_words.proofs.Renaming.{map_on, path-renamed, spelled}
use Rattle.declaration_walk.specs.Mapped.{map_attribute, map_parameter, map_formal, map_field, map_nameless, map_fields, map_case, map_declaration, renamed_declaration}
use Rattle.declaration_walk.proofs.Openings.{counted-renamed, title_then, title-assoc}

module _ {N M : Type 0} (f : N → M) (g : ℕ → N) where
  module _ (bound : ℕ) (ws : List ℕ) (ty : ℕ → Reading (Ty N)) (ty' : ℕ → Reading (Ty M)) (h : (p : ℕ) → ty' p ≡ map_reading (renamed f) (ty p)) where
    abbrev g' : ℕ → M
    g' x = f (g x)

    name : (p : ℕ) → read_name bound ws g' ty' p ≡ map_reading f (read_name bound ws g ty p)
    unfolding read_name map_reading
    name p = map_on (λ x. x) f (read_below bound ws p) _ _ (sym (map_same (read_below bound ws p))) λ x q. refl

    attribute : (p : ℕ) → read_attribute bound ws g' ty' p ≡ map_reading (map_attribute f) (read_attribute bound ws g ty p)
    unfolding read_attribute map_reading
    attribute p =
        map_on f (map_attribute f) (read_name bound ws g ty p) _ _ (name p) λ x q.
        map_on (map f) (map_attribute f) (read_counted ws (read_name bound ws g ty) q) _ _ (counted-renamed ws f _ _ name q) λ xs r. refl

    parameter : (p : ℕ) → read_parameter present bound ws g' ty' p ≡ map_reading (map_parameter f (renamed f)) (read_parameter present bound ws g ty p)
    unfolding read_parameter map_reading
    parameter p =
        map_on f (map_parameter f (renamed f)) (read_name bound ws g ty p) _ _ (name p) λ x q.
        map_on (map (renamed f)) (map_parameter f (renamed f)) (read_counted ws ty q) _ _ (counted-renamed ws (renamed f) ty ty' h q) λ ts r. refl

    formal : (p : ℕ) → read_formal bound ws g' ty' p ≡ map_reading (map_formal f (renamed f)) (read_formal bound ws g ty p)
    unfolding read_formal map_reading
    formal p =
        map_on f (map_formal f (renamed f)) (read_name bound ws g ty p) _ _ (name p) λ x q.
        map_on (renamed f) (map_formal f (renamed f)) (ty q) _ _ (h q) λ t r. refl

    field : (p : ℕ) → read_field bound ws g' ty' p ≡ map_reading (map_field f (renamed f)) (read_field bound ws g ty p)
    unfolding read_field map_reading
    field p =
        map_on (λ v. v) (map_field f (renamed f)) (read_visibility ws p) _ _ (sym (map_same (read_visibility ws p))) λ v q.
        map_on (map_formal f (renamed f)) (map_field f (renamed f)) (read_formal bound ws g ty q) _ _ (formal q) λ x r. refl

    nameless : (p : ℕ) → read_nameless_field bound ws g' ty' p ≡ map_reading (map_nameless f (renamed f)) (read_nameless_field bound ws g ty p)
    unfolding read_nameless_field map_reading
    nameless p =
        map_on (λ v. v) (map_nameless f (renamed f)) (read_visibility ws p) _ _ (sym (map_same (read_visibility ws p))) λ v q.
        map_on (renamed f) (map_nameless f (renamed f)) (ty q) _ _ (h q) λ t r. refl

    fields : (p : ℕ) → read_fields bound ws g' ty' p ≡ map_reading (map_fields f (renamed f)) (read_fields bound ws g ty p)
    unfolding read_fields map_reading map_fields
    fields p = map_on (λ k. k) (map_fields f (renamed f)) (read_below 2 ws p) _ _ (sym (map_same (read_below 2 ws p))) λ k q. go (eqb k 0) q
      where
        go : (b : Bool) (q : ℕ)
            → pick b (read_counted ws (read_field bound ws g' ty') q >>= λ xs r. got (NamedFields xs) r) (read_counted ws (read_nameless_field bound ws g' ty') q >>= λ xs r. got (NamelessFields xs) r)
            ≡ map_reading (map_fields f (renamed f)) (pick b (read_counted ws (read_field bound ws g ty) q >>= λ xs r. got (NamedFields xs) r) (read_counted ws (read_nameless_field bound ws g ty) q >>= λ xs r. got (NamelessFields xs) r))
        go true q = map_on (map (map_field f (renamed f))) (map_fields f (renamed f)) (read_counted ws (read_field bound ws g ty) q) _ _ (counted-renamed ws (map_field f (renamed f)) _ _ field q) λ xs r. refl
        go false q = map_on (map (map_nameless f (renamed f))) (map_fields f (renamed f)) (read_counted ws (read_nameless_field bound ws g ty) q) _ _ (counted-renamed ws (map_nameless f (renamed f)) _ _ nameless q) λ xs r. refl

    case : (p : ℕ) → read_case bound ws g' ty' p ≡ map_reading (map_case f (renamed f)) (read_case bound ws g ty p)
    unfolding read_case map_reading
    case p =
        map_on f (map_case f (renamed f)) (read_name bound ws g ty p) _ _ (name p) λ d q.
        map_on f (map_case f (renamed f)) (read_name bound ws g ty q) _ _ (name q) λ x r.
        map_on (map_fields f (renamed f)) (map_case f (renamed f)) (read_fields bound ws g ty r) _ _ (fields r) λ fs s. refl

    -- a value read under other names, and a declaration made of it
    made : {A B S T : Type 0} (r : A → B) (x : Reading A) {x' : Reading B} (b : A → S) (b' : B → T) (c : S → Declaration N) (c' : T → Declaration M)
        → x' ≡ map_reading r x → ((a : A) → c' (b' (r a)) ≡ renamed_declaration f (c (b a)))
        → ((x' >>= λ y n. got (b' y) n) >>= λ y n. got (c' y) n) ≡ map_reading (renamed_declaration f) ((x >>= λ y n. got (b y) n) >>= λ y n. got (c y) n)
    unfolding map_reading
    made {A} r x b b' c c' e k = ap (λ z. (z >>= λ y n. got (b' y) n) >>= λ y n. got (c' y) n) e ∙ go x
      where
        go : (z : Reading A) → ((map_reading r z >>= λ y n. got (b' y) n) >>= λ y n. got (c' y) n) ≡ map_reading (renamed_declaration f) ((z >>= λ y n. got (b y) n) >>= λ y n. got (c y) n)
        go (got a n) = ap (λ y. got y n) (k a)
        go (stop i) = refl

    -- what follows a title
    title : (last : N → List (Attribute N) → N → List (TypeParamDecl N) → ℕ → Reading (Declaration N)) (last' : M → List (Attribute M) → M → List (TypeParamDecl M) → ℕ → Reading (Declaration M))
        → ((d : N) (l : List (Attribute N)) (x : N) (ps : List (TypeParamDecl N)) (s : ℕ)
        → last' (f d) (map (map_attribute f) l) (f x) (map (map_parameter f (renamed f)) ps) s ≡ map_reading (renamed_declaration f) (last d l x ps s))
        → (p : ℕ) → title_then bound ws g' ty' last' p ≡ map_reading (renamed_declaration f) (title_then bound ws g ty last p)
    title last last' k p =
        map_on f (renamed_declaration f) (read_name bound ws g ty p) _ _ (name p) λ d q.
        map_on (map (map_attribute f)) (renamed_declaration f) (read_counted ws (read_attribute bound ws g ty) q) _ _ (counted-renamed ws (map_attribute f) _ _ attribute q) λ l r.
        map_on f (renamed_declaration f) (read_name bound ws g ty r) _ _ (name r) λ x s.
        map_on (map (map_parameter f (renamed f))) (renamed_declaration f) (read_counted ws (read_parameter present bound ws g ty) s) _ _ (counted-renamed ws (map_parameter f (renamed f)) _ _ parameter s) λ ps v. k d l x ps v

    -- ---- declarations: each as `renamed_declaration` gives it

    struct : (p : ℕ) → (read_struct present bound ws g' ty' p >>= λ s q. got (StructDecl s) q) ≡ map_reading (renamed_declaration f) (read_struct present bound ws g ty p >>= λ s q. got (StructDecl s) q)
    unfolding read_struct map_reading map_declaration
    struct p =
        title-assoc bound ws g' ty' (λ d l x ps s. read_fields bound ws g' ty' s >>= λ fs t. got (record { doc_string = d; attributes = l; name = x; type_params = ps; fields = fs }) t) (λ s q. got (StructDecl s) q) p
        ∙ title (λ d l x ps s. (read_fields bound ws g ty s >>= λ fs t. got (record { doc_string = d; attributes = l; name = x; type_params = ps; fields = fs }) t) >>= λ s q. got (StructDecl s) q) _
        (λ d l x ps s. made (map_fields f (renamed f)) (read_fields bound ws g ty s) _ _ StructDecl StructDecl (fields s) (λ fs. refl)) p
        ∙ ap (map_reading (renamed_declaration f)) (sym (title-assoc bound ws g ty (λ d l x ps s. read_fields bound ws g ty s >>= λ fs t. got (record { doc_string = d; attributes = l; name = x; type_params = ps; fields = fs }) t) (λ s q. got (StructDecl s) q) p))

    enum : (p : ℕ) → (read_enum present bound ws g' ty' p >>= λ e q. got (EnumDecl e) q) ≡ map_reading (renamed_declaration f) (read_enum present bound ws g ty p >>= λ e q. got (EnumDecl e) q)
    unfolding read_enum map_reading map_declaration
    enum p =
        title-assoc bound ws g' ty' (λ d l x ps s. read_counted ws (read_case bound ws g' ty') s >>= λ cs t. got (record { doc_string = d; attributes = l; name = x; type_params = ps; variants = cs }) t) (λ e q. got (EnumDecl e) q) p
        ∙ title (λ d l x ps s. (read_counted ws (read_case bound ws g ty) s >>= λ cs t. got (record { doc_string = d; attributes = l; name = x; type_params = ps; variants = cs }) t) >>= λ e q. got (EnumDecl e) q) _
        (λ d l x ps s. made (map (map_case f (renamed f))) (read_counted ws (read_case bound ws g ty) s) _ _ EnumDecl EnumDecl (counted-renamed ws (map_case f (renamed f)) _ _ case s) (λ cs. refl)) p
        ∙ ap (map_reading (renamed_declaration f)) (sym (title-assoc bound ws g ty (λ d l x ps s. read_counted ws (read_case bound ws g ty) s >>= λ cs t. got (record { doc_string = d; attributes = l; name = x; type_params = ps; variants = cs }) t) (λ e q. got (EnumDecl e) q) p))

    synonym : (p : ℕ) → (read_type_synonym present bound ws g' ty' p >>= λ t q. got (TypeDecl t) q) ≡ map_reading (renamed_declaration f) (read_type_synonym present bound ws g ty p >>= λ t q. got (TypeDecl t) q)
    unfolding read_type_synonym map_reading map_declaration
    synonym p =
        title-assoc bound ws g' ty' (λ d l x ps s. ty' s >>= λ t u. got (record { doc_string = d; attributes = l; name = x; type_params = ps; tpe = t }) u) (λ t q. got (TypeDecl t) q) p
        ∙ title (λ d l x ps s. (ty s >>= λ t u. got (record { doc_string = d; attributes = l; name = x; type_params = ps; tpe = t }) u) >>= λ t q. got (TypeDecl t) q) _
        (λ d l x ps s. made (renamed f) (ty s) _ _ TypeDecl TypeDecl (h s) (λ t. refl)) p
        ∙ ap (map_reading (renamed_declaration f)) (sym (title-assoc bound ws g ty (λ d l x ps s. ty s >>= λ t u. got (record { doc_string = d; attributes = l; name = x; type_params = ps; tpe = t }) u) (λ t q. got (TypeDecl t) q) p))

    use-read : (p : ℕ) → (read_use bound ws g' ty' p >>= λ u q. got (UseDecl u) q) ≡ map_reading (renamed_declaration f) (read_use bound ws g ty p >>= λ u q. got (UseDecl u) q)
    unfolding read_use map_reading map_declaration
    use-read p = go (read_visibility ws p)
      where
        path : (v : Visibility) (y : Reading PathAt)
            → ((y >>= λ x r. got (record { visibility = v; path = path_of ws g' x }) r) >>= λ u q. got (UseDecl u) q)
            ≡ map_reading (renamed_declaration f) ((y >>= λ x r. got (record { visibility = v; path = path_of ws g x }) r) >>= λ u q. got (UseDecl u) q)
        path v (got x r) = ap (λ y. got (UseDecl (record { visibility = v; path = y })) r) (path-renamed f g ws x)
        path v (stop k) = refl

        go : (y : Reading Visibility)
            → ((y >>= λ v q. read_path bound ws q >>= λ x r. got (record { visibility = v; path = path_of ws g' x }) r) >>= λ u q. got (UseDecl u) q)
            ≡ map_reading (renamed_declaration f) ((y >>= λ v q. read_path bound ws q >>= λ x r. got (record { visibility = v; path = path_of ws g x }) r) >>= λ u q. got (UseDecl u) q)
        go (got v q) = path v (read_path bound ws q)
        go (stop k) = refl

    pub declaration-renamed : (at : ℕ) → read_declaration present bound ws g' ty' at ≡ map_reading (renamed_declaration f) (read_declaration present bound ws g ty at)
    unfolding read_declaration declaration_after map_reading
    declaration-renamed at = map_on (λ w. w) (renamed_declaration f) (read_word ws at) _ _ (sym (map_same (read_word ws at))) λ w p.
        go p (eqb w present.struct_head) (eqb w present.enum_head) (eqb w present.synonym_head) (eqb w present.use_head)
      where
        go : (p : ℕ) (a b c d : Bool)
            → pick a (read_struct present bound ws g' ty' p >>= λ s q. got (StructDecl s) q) (pick b (read_enum present bound ws g' ty' p >>= λ e q. got (EnumDecl e) q) (pick c (read_type_synonym present bound ws g' ty' p >>= λ t q. got (TypeDecl t) q) (pick d (read_use bound ws g' ty' p >>= λ u q. got (UseDecl u) q) (stop UnknownWord))))
            ≡ map_reading (renamed_declaration f) (pick a (read_struct present bound ws g ty p >>= λ s q. got (StructDecl s) q) (pick b (read_enum present bound ws g ty p >>= λ e q. got (EnumDecl e) q) (pick c (read_type_synonym present bound ws g ty p >>= λ t q. got (TypeDecl t) q) (pick d (read_use bound ws g ty p >>= λ u q. got (UseDecl u) q) (stop UnknownWord)))))
        go p true b c d = struct p
        go p false true c d = enum p
        go p false false true d = synonym p
        go p false false false true = use-read p
        go p false false false false = refl

-- the declaration of an encoding, by name numbers
abbrev pub numbered_at : List ℕ → List ℕ → ℕ → Reading (Declaration ℕ)
numbered_at ws pairs at = read_declaration present (name_count pairs) ws (λ x. x) (tree_at ws pairs) at

pub declaration-spelled : (ws pairs : List ℕ) (text : Bytes) (at : ℕ) → declaration_at ws pairs text at ≡ map_reading (renamed_declaration (name_bytes pairs text)) (numbered_at ws pairs at)
declaration-spelled ws pairs text at =
    declaration-renamed (name_bytes pairs text) (λ x. x) (name_count pairs) ws (tree_at ws pairs) (type_at ws pairs text) (spelled ws pairs text) at
