-- Whether an accepted type is an application of a path of a class, by the words that stand there.
use Rattle.std.proofs.Common.{◌≡◌, ℕ, ◌+◌, ◌<◌, Bool, false, List, length, get_or, sym, ◌∙◌}
use Rattle.rast.specs.Bytes.{Bytes}
use Rattle.encoding.specs.Tables.{name_bytes, name_count}
use Rattle.encoding.specs.Types.{path_of, type_at}
use Rattle.encoding.proofs.TypeKinds.{type-kind}
use Rattle.encoding.proofs.Types.{types-count}
use Rattle.accepted_types.specs.Accepted.{Readable}
use Rattle.accepted_types.proofs.Accepted.{type-here, PathThere, path-type}
use Rattle.unwrap.specs.Asked.{Judges}
use Rattle.unwrap.proofs.TypesIn.{apply-of}
use Rattle.known_paths.specs.declared.Class.{Class}
use Rattle.known_paths.specs.Classes.{in_class, arity, name_count_of, is_of}
use Rattle.known_paths.proofs.Applying.{of_other, of-count, of-base, of-no-path, of-path}
use Rattle.known_paths.proofs.Paths.{class-count}

module _ (ws pairs : List ℕ) (text : Bytes) (at : ℕ) (class : Class) where
  pub word-other : (get_or ws at 0 ≡ 14 → ⊥) → Judges (is_of class) (type_at ws pairs text at) false
  word-other h = record { says = λ t n e. sym (of_other class t λ c. h (sym (type-kind ws pairs text at e) ∙ c)) }

  module _ (k : get_or ws at 0 ≡ 14) where
    pub count-other : {m : ℕ} → m ≡ arity class → (get_or ws (at + 1) 0 ≡ m → ⊥) → Judges (is_of class) (type_at ws pairs text at) false
    count-other i h = record {
      says = λ t n e.
          let a = (apply-of ws pairs text at e k).1 in
          rw a.made (sym (of-count class a.left a.right λ c. h (sym (types-count (type_at ws pairs text) (get_or ws (at + 1) 0) a.middle a.reads₂) ∙ c ∙ sym i)));
    }

    pub base-word-other : (get_or ws (at + 2) 0 ≡ 13 → ⊥) → Judges (is_of class) (type_at ws pairs text at) false
    base-word-other h = record {
      says = λ t n e.
          let a = (apply-of ws pairs text at e k).1 in
          rw a.made (sym (of-base class a.left a.right λ c. h (sym (type-kind ws pairs text (at + 2) a.reads) ∙ c)));
    }

    -- the base is a path of more or fewer names
    pub names-other : {m : ℕ} → m ≡ name_count_of class → get_or ws (at + 2) 0 ≡ 13 → (get_or ws (at + 2 + 2) 0 ≡ m → ⊥) → Judges (is_of class) (type_at ws pairs text at) false
    names-other i h d = record {
      says = λ t n e.
          let a = (apply-of ws pairs text at e k).1 in
          let p = path-type ws pairs text (at + 2) a.reads h in
          let c = class-count (name_count pairs) ws (name_bytes pairs text) _ p.own class (λ z. d (z ∙ sym i)) in
          rw (a.made, p.type) (sym (of-no-path class (path_of ws (name_bytes pairs text) _) a.right c));
    }

    -- the base is a path
    pub path-word : {m : ℕ} {r : Bool} → m ≡ arity class → get_or ws (at + 1) 0 ≡ m → get_or ws (at + 2) 0 ≡ 13
        → r ≡ in_class class (path_of ws (name_bytes pairs text) (record { root = get_or ws (at + 2 + 1) 0; start = at + 2 + 3; count = get_or ws (at + 2 + 2) 0 }))
        → Judges (is_of class) (type_at ws pairs text at) r
    path-word i j h d = record {
      says = λ t n e.
          let a = (apply-of ws pairs text at e k).1 in
          let p = path-type ws pairs text (at + 2) a.reads h in
          let c = types-count (type_at ws pairs text) (get_or ws (at + 1) 0) a.middle a.reads₂ ∙ j ∙ i in
          rw (a.made, p.type) (d ∙ of-path class (path_of ws (name_bytes pairs text) _) a.right c);
    }

module _ (ws pairs : List ℕ) (text : Bytes) (at : ℕ) (r : Readable (type_at ws pairs text at)) where
  pub word-here : at < length ws
  word-here = type-here ws pairs text at r.reads

  module _ (k : get_or ws at 0 ≡ 14) where
    pub count-here : at + 1 < length ws
    count-here = (apply-of ws pairs text at r.reads k).0

    pub base-here : at + 2 < length ws
    base-here = type-here ws pairs text (at + 2) (apply-of ws pairs text at r.reads k).1.reads

    -- what stands in the base, if it is a path
    pub path-here : (h : get_or ws (at + 2) 0 ≡ 13) → PathThere ws pairs text (at + 2) (apply-of ws pairs text at r.reads k).1.reads
    path-here h = path-type ws pairs text (at + 2) (apply-of ws pairs text at r.reads k).1.reads h
