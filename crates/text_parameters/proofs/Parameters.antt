-- Parameters and lists of them, from the texts of their parts.
use Prim.Native.Nat.{ℕ}
use mathlib.Core.Path.{refl, ap, sym, ◌∙◌}
use mathlib.Core.List.{List, [], ◌∷◌, ◌++◌, append-nil}
use Rattle.rast.specs.Bytes.{Bytes, ascii}
use Rattle.rast.specs.ToString.{Type-to_string}
use Rattle.rast.specs.Indent.{SeqToString}
use Rattle.rast.specs.Declaration.{TypeParamDecl}
use Rattle.rast.specs.DeclarationToString.{constraints_text, TypeParamDecl-to_string, TypeParamDecl-to_string_multiple}
use Rattle.encoding.specs.Reading.{Reading, got, ◌>>=◌}
use Rattle.encoding.specs.Scans.{map_reading}
use Rattle.encoding.specs.Tables.{name_bytes, name_count}
use Rattle.encoding.specs.Types.{type_at}
use Rattle.encoding.specs.Forms.{present}
use Rattle.encoding.specs.Declarations.{read_list, read_counted, read_parameter}
use Rattle.text_pass.specs.Passes.{last, ◌then◌, run}
use Rattle.text_pass.specs.Texts.{name_at}
use Rattle.text_pass.proofs.Passes.{Runs}
use Rattle.text_pass.proofs.Splits.{nothing-behind, shown-runs, shown-text, shown-last, listed-read, around, within_same}
use Rattle.text_pass.proofs.Leaves.{CountFirst, counted-first}
use Rattle.text_parameters.specs.Texts.{some_constraints, constraints_at, parameter_at, some_parameters, parameters_at}

module _ (ws pairs : List ℕ) (text : Bytes) where
  abbrev parameter : ℕ → Reading (TypeParamDecl Bytes)
  parameter = read_parameter present (name_count pairs) ws (name_bytes pairs text) (type_at ws pairs text)

  pub parameter-runs : (at : ℕ) → Runs (parameter_at ws pairs text at) (name_at ws pairs text at then λ p. last (constraints_at ws pairs text p))
  unfolding read_parameter TypeParamDecl-to_string
  parameter-runs at =
      shown-runs (shown-text (name_at ws pairs text at) (λ x p. shown-last constraints_text (λ ts. record { name = x; constraints = ts }) (read_counted ws (type_at ws pairs text) p) (λ ts. refl)))

  pub constraints-first : (at : ℕ) → CountFirst ws at (constraints_at ws pairs text at) [] (λ n p. got (ascii ": ") p then λ q. last (some_constraints ws pairs text n q))
  unfolding constraints_text ascii run
  constraints-first at =
      counted-first constraints_text ws (type_at ws pairs text) at (λ n p h.
      around constraints_text (SeqToString Type-to_string (ascii " + ")) (ascii ": ") [] (λ x l. ap (λ (b : Bytes). ascii ": " ++ b) (sym (append-nil (SeqToString Type-to_string (ascii " + ") (x ∷ l))))) (type_at ws pairs text) n p h
      ∙ ap (λ (z : Reading Bytes). z >>= λ c q. got (ascii ": " ++ c) q)
      (nothing-behind (map_reading (SeqToString Type-to_string (ascii " + ")) (read_list (type_at ws pairs text) n p)) ∙ listed-read Type-to_string (ascii " + ") (type_at ws pairs text) n p))

  pub parameters-first : (at : ℕ) → CountFirst ws at (parameters_at ws pairs text at) [] (λ n p. got (ascii "<") p then λ q. some_parameters ws pairs text n q then λ r. last (got (ascii ">") r))
  unfolding TypeParamDecl-to_string_multiple ascii
  parameters-first at =
      counted-first TypeParamDecl-to_string_multiple ws parameter at (λ n p h.
      around TypeParamDecl-to_string_multiple (SeqToString TypeParamDecl-to_string (ascii ", ")) (ascii "<") (ascii ">") (λ x l. refl) parameter n p h
      ∙ within_same (ascii "<") (ascii ">") p (λ q. map_reading (SeqToString TypeParamDecl-to_string (ascii ", ")) (read_list parameter n q)) (some_parameters ws pairs text n)
      (listed-read TypeParamDecl-to_string (ascii ", ") parameter n p))
