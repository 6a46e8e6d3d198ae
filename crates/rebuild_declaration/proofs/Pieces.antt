-- Laws of pieces that are laid down one behind the other.
use Prim.Native.Nat.{ℕ, suc, ◌+◌, ◌≤◌, max}
use mathlib.Core.Path.{◌≡◌, refl, ap, sym, ◌∙◌}
use mathlib.Core.List.{List, [], ◌∷◌, ◌++◌, map, map-append, map_congr_left, append-nil}
use native.Mathlib.Omega.{arith}
use lib.ListN.{length, length-append, length-map}
use Rattle.rast.specs.Tree.{Ty}
use Rattle.rast.specs.Declaration.{Declaration, StructDecl, EnumDecl, TypeDecl, UseDecl, Fields, NamedFields, NamelessFields, EnumCase}
use Rattle.encoding.specs.Forms.{present}
use Rattle.tree_words.specs.Encode.{Token, token_word, tokens, words, encode}
use Rattle.rebuild_spec.specs.Replace.{Replace}
use Rattle.rebuild_spec.specs.Laying.{depth, peak}
use Rattle.rebuild_spec.proofs.Nodes.{peak-least}
use Rattle.declaration_walk.specs.declared.Role.{Role}
use Rattle.declaration_walk.specs.Pieces.{Piece, own, type, runs, own_pieces, piece_tokens, pieces, declaration_tokens, encode_declaration}
use Rattle.declaration_walk.specs.Mapped.{map_parameter, map_fields, map_case, map_declaration, with_types, piece_with}
use Rattle.declaration_walk.proofs.WithTypes.{attributes-kept, use_kept, with-pieces}
use Rattle.declaration_walk.proofs.Encoded.{runs_append}
use Rattle.rebuild_declaration.specs.Replacer.{ReplaceTypeParams, ReplaceFields, ReplaceStruct, ReplaceEnumCase, ReplaceEnum, ReplaceTypeDecl, ReplaceUse, ReplaceModDecl}
use Rattle.rebuild_declaration.specs.Laying.{deepest_piece, top_pieces}
use Rattle.rebuild_declaration.specs.Steps.{encode_pieces, rebuilt_words, rebuilt_depth}
use Rattle.rebuild_declaration.specs.Calls.{laid_declaration}

encode-append : (ps qs : List (Piece ℕ)) → encode_pieces (ps ++ qs) ≡ encode_pieces ps ++ encode_pieces qs
unfolding encode_pieces
encode-append ps qs = ap (map token_word) (runs_append piece_tokens ps qs) ∙ map-append token_word (runs piece_tokens ps) (runs piece_tokens qs)

deepest-append : (ps qs : List (Piece ℕ)) → deepest_piece (ps ++ qs) ≡ max (deepest_piece ps) (deepest_piece qs)
unfolding deepest_piece
deepest-append [] qs = omega arith
deepest-append (own k ∷ ps) qs = deepest-append ps qs
deepest-append (type a t ∷ ps) qs = let k = deepest-append ps qs in omega (arith, k)

pub encode-none : length (encode_pieces []) ≡ 0
unfolding encode_pieces runs
encode-none = refl

pub encode-own : (k : Token ℕ) (ps : List (Piece ℕ)) → length (encode_pieces (own k ∷ ps)) ≡ suc (length (encode_pieces ps))
unfolding encode_pieces runs piece_tokens
encode-own k ps = refl

pub encode-type : (a : Role) (t : Ty ℕ) (ps : List (Piece ℕ)) → length (encode_pieces (type a t ∷ ps)) ≡ words t + length (encode_pieces ps)
unfolding encode_pieces runs piece_tokens words
encode-type a t ps =
    ap length (map-append token_word (tokens t) (runs piece_tokens ps)) ∙ length-append (map token_word (tokens t)) (map token_word (runs piece_tokens ps))
    ∙ ap (λ n. n + length (map token_word (runs piece_tokens ps))) (length-map (tokens t) token_word)

module _ (m : Ty ℕ → Ty ℕ) where
  pub words_append : (ps qs : List (Piece ℕ)) → rebuilt_words m (ps ++ qs) ≡ rebuilt_words m ps ++ rebuilt_words m qs
  words_append ps qs = ap encode_pieces (map-append (piece_with (Replace m)) ps qs) ∙ encode-append (map (piece_with (Replace m)) ps) (map (piece_with (Replace m)) qs)

  pub depth-append : (ps qs : List (Piece ℕ)) → rebuilt_depth m (ps ++ qs) ≡ max (rebuilt_depth m ps) (rebuilt_depth m qs)
  depth-append ps qs = ap deepest_piece (map-append (piece_with (Replace m)) ps qs) ∙ deepest-append (map (piece_with (Replace m)) ps) (map (piece_with (Replace m)) qs)

  pub top-append : (ps qs : List (Piece ℕ)) → top_pieces m (ps ++ qs) ≡ max (top_pieces m ps) (length (rebuilt_words m ps) + top_pieces m qs)
  unfolding top_pieces piece_with
  top-append [] qs = omega (arith, encode-none)
  top-append (own k ∷ ps) qs = let h = top-append ps qs in omega (arith, h, encode-own k (map (piece_with (Replace m)) ps))
  top-append (type a t ∷ ps) qs = let h = top-append ps qs in omega (arith, h, encode-type a (Replace m t) (map (piece_with (Replace m)) ps))

  -- no more words are left than lay there
  pub top-least : (ps : List (Piece ℕ)) → length (rebuilt_words m ps) ≤ top_pieces m ps
  unfolding top_pieces piece_with
  top-least [] = omega (arith, encode-none)
  top-least (own k ∷ ps) = let h = top-least ps in omega (arith, h, encode-own k (map (piece_with (Replace m)) ps))
  top-least (type a t ∷ ps) = let h = top-least ps in omega (arith, h, encode-type a (Replace m t) (map (piece_with (Replace m)) ps))

  -- own words alone
  pub own-words : (ks : List (Token ℕ)) → (rebuilt_words m (own_pieces ks) ≡ map token_word ks) × (top_pieces m (own_pieces ks) ≡ length ks) × (rebuilt_depth m (own_pieces ks) ≡ 0)
  unfolding encode_pieces runs piece_tokens piece_with top_pieces deepest_piece
  own-words [] = (refl, refl, refl)
  own-words (k ∷ ks) = let h = own-words ks in let e : top_pieces m (own k ∷ own_pieces ks) ≡ suc (length ks) = omega (arith, h.1) in (ap (λ l. token_word k ∷ l) h.0, e, h.2)

  -- one type alone
  pub one_type : (a : Role) (t : Ty ℕ) → (rebuilt_words m (type a t ∷ []) ≡ encode (Replace m t)) × (top_pieces m (type a t ∷ []) ≡ peak m t) × (rebuilt_depth m (type a t ∷ []) ≡ depth (Replace m t))
  unfolding encode_pieces runs piece_tokens piece_with top_pieces deepest_piece encode
  one_type a t = (ap (map token_word) (append-nil (tokens (Replace m t))), omega (arith, peak-least m t), omega arith)

  -- ---- declarations

  abbrev same : ℕ → ℕ
  same x = x

  fields-with : (f : Fields ℕ) → ReplaceFields m f ≡ map_fields same (Replace m) f
  unfolding ReplaceFields map_fields
  fields-with (NamedFields xs) = refl
  fields-with (NamelessFields xs) = refl

  case-with : (c : EnumCase ℕ) → ReplaceEnumCase m c ≡ map_case same (Replace m) c
  unfolding ReplaceEnumCase
  case-with c = ap (λ (f : Fields ℕ). record { doc_string = c.doc_string; name = c.name; fields = f }) (fields-with c.fields)

  -- the source's replacer is the map with its types rebuilt
  pub replaced-with : (d : Declaration ℕ) → ReplaceModDecl m d ≡ with_types (Replace m) d
  unfolding ReplaceModDecl ReplaceStruct ReplaceEnum ReplaceTypeDecl ReplaceUse ReplaceTypeParams map_declaration
  replaced-with (StructDecl s) = rw (attributes-kept s.attributes, sym (fields-with s.fields))
  replaced-with (EnumDecl e) =
      rw (attributes-kept e.attributes)
      (ap (λ (cs : List (EnumCase ℕ)). EnumDecl (record { doc_string = e.doc_string; attributes = e.attributes; name = e.name; type_params = map (map_parameter same (Replace m)) e.type_params; variants = cs }))
      (map_congr_left {f = ReplaceEnumCase m} {g = map_case same (Replace m)} {l = e.variants} (λ c i. case-with c)))
  replaced-with (TypeDecl t) = rw (attributes-kept t.attributes)
  replaced-with (UseDecl u) = sym (use_kept (Replace m) u)

  -- a rebuilt declaration is its pieces, rebuilt
  pub replaced-pieces : (d : Declaration ℕ) → pieces present (ReplaceModDecl m d) ≡ map (piece_with (Replace m)) (pieces present d)
  replaced-pieces d = ap (pieces present) (replaced-with d) ∙ with-pieces (Replace m) present d

  pub declaration-words : (d : Declaration ℕ) → (laid_declaration m d).words ≡ rebuilt_words m (pieces present d)
  unfolding encode_declaration declaration_tokens encode_pieces
  declaration-words d = ap (λ ps. map token_word (runs piece_tokens ps)) (replaced-pieces d)

  pub declaration-depth : (d : Declaration ℕ) → (laid_declaration m d).deep ≡ rebuilt_depth m (pieces present d)
  declaration-depth d = ap deepest_piece (replaced-pieces d)
