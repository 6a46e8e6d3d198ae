-- What a measure says of the reading behind it.
use Rattle.std.specs.Prelude.{Ok, Err, Result}
use Prim.Native.Nat.{ℕ}
use mathlib.Core.Path.{◌≡◌, refl, ap, sym, ◌∙◌}
use mathlib.Core.List.{List}
use lib.ListN.{length}
use Rattle.rast.specs.Bytes.{Bytes}
use Rattle.rast.specs.Tree.{Ty}
use Rattle.rast.specs.ToString.{Path-to_string, Type-to_string}
use Rattle.encoding.specs.declared.Refusal.{Refusal}
use Rattle.encoding.specs.declared.PathAt.{PathAt}
use Rattle.encoding.specs.Reading.{Reading, got, stop}
use Rattle.encoding.specs.Tables.{name_bytes, name_count}
use Rattle.encoding.specs.Tested.{Good}
use Rattle.encoding.specs.Heads.{read_path}
use Rattle.encoding.specs.Types.{path_of}
use Rattle.encoding.proofs.Tables.{impossible}
use Rattle.encoding.proofs.Inside.{path-lies}
use Rattle.text_measure.specs.Lengths.{measure_of, path_measure_of, PathScanned, read, unread}
use Rattle.text_measure.proofs.Lengths.{path-length}

-- a type was read that ends at n, and so many bytes are its text
pub record Sized (x : Reading (Ty Bytes)) (n bytes : ℕ) : Type 0 where
  pub value : Ty Bytes
  pub reads : x ≡ got value n
  pub size : bytes ≡ length (Type-to_string value)

pub measured-got : (x : Reading (Ty Bytes)) {r : Result (ℕ × ℕ) Refusal} {n b : ℕ} → r ≡ measure_of x → r ≡ Ok (n, b) → Sized x n b
measured-got (got t m) {r} {n} {b} e d =
    let q : ◌≡◌ {A = ℕ × ℕ} (m, length (Type-to_string t)) (n, b) = cc in
    record { value = t; reads = ap (λ z. got t z.0) q; size = sym (ap (λ z. z.1) q) }
measured-got (stop k) e d = impossible (cc)

pub measured-stop : (x : Reading (Ty Bytes)) {r : Result (ℕ × ℕ) Refusal} {k : Refusal} → r ≡ measure_of x → r ≡ Err k → x ≡ stop k
measured-stop (got t m) e d = impossible (cc)
measured-stop (stop k) e d = cc

-- a path that was measured by its names' lengths was measured by its text
pub path-measured : (ws pairs : List ℕ) (text : Bytes) → Good pairs text → (at : ℕ) {r : Result (PathAt × ℕ × ℕ) Refusal} → PathScanned ws pairs (read_path (name_count pairs) ws at) r
    → r ≡ path_measure_of ws (name_bytes pairs text) (read_path (name_count pairs) ws at)
path-measured ws pairs text good at (read {p} {n} {b} e l s) =
    let k = path-length ws pairs text good p (path-lies (name_count pairs) ws at e).own in
    rw e (ap (λ z. Ok (p, n, z)) (l ∙ sym k))
path-measured ws pairs text good at (unread e) = rw e

-- what the measure of a path says of the reading behind it
pub record SizedPath (ws : List ℕ) (name : ℕ → Bytes) (x : Reading PathAt) (p : PathAt) (n bytes : ℕ) : Type 0 where
  pub reads : x ≡ got p n
  pub size : bytes ≡ length (Path-to_string (path_of ws name p))

module _ (ws : List ℕ) (name : ℕ → Bytes) where
  pub measured-path : (x : Reading PathAt) {r : Result (PathAt × ℕ × ℕ) Refusal} {p : PathAt} {n b : ℕ} → r ≡ path_measure_of ws name x → r ≡ Ok (p, n, b) → SizedPath ws name x p n b
  measured-path (got q m) {r} {p} {n} {b} e d =
      let f : ◌≡◌ {A = PathAt × ℕ × ℕ} (p, n, b) (q, m, length (Path-to_string (path_of ws name q))) = cc in
      rw (ap (λ z. z.0) f, ap (λ z. z.1) f) (record { reads = refl; size = ap (λ z. z.2) f })
  measured-path (stop k) e d = impossible (cc)

  pub unmeasured-path : (x : Reading PathAt) {r : Result (PathAt × ℕ × ℕ) Refusal} {k : Refusal} → r ≡ path_measure_of ws name x → r ≡ Err k → x ≡ stop k
  unmeasured-path (got q m) e d = impossible (cc)
  unmeasured-path (stop k) e d = cc
