-- The names of a path, one by one.
use Prim.Native.Nat.{ℕ, suc, ◌+◌, ◌-◌, ◌≤◌, ◌<◌}
use mathlib.Core.Path.{◌≡◌, ap, sym, ◌∙◌}
use mathlib.Core.List.{List, [], ◌∷◌}
use native.Mathlib.Omega.{arith}
use native.Mathlib.Numerals.{add-one}
use lib.ListN.{length, get_or, take, drop}
use lib.Seq.{drop-cons}
use Rattle.encoding.specs.declared.Refusal.{Refusal}
use Rattle.encoding.specs.declared.PathAt.{PathAt}
use Rattle.encoding.specs.Reading.{got, stop, read_below, read_names}
use Rattle.encoding.proofs.Reading.{names_more, names-stop, names-none}
use Rattle.encoding.proofs.Inside.{below-there}
use Rattle.text_measure.specs.Lengths.{names_path}

-- what stands from i to `end`
pub part-next : (l : List ℕ) (i end : ℕ) → i < end → i < length l → take (end - i) (drop i l) ≡ get_or l i 0 ∷ take (end - (i + 1)) (drop (i + 1) l)
part-next l i end h k =
    let e : end - i ≡ suc (end - (i + 1)) = omega arith in
    rw (e, add-one i, drop-cons l i 0 k)

pub part_none : (l : List ℕ) (i end : ℕ) → end ≤ i → take (end - i) (drop i l) ≡ []
part_none l i end h = let e : end - i ≡ 0 = omega arith in rw e

-- of the names from `start` to `end` those before i were read, so those from i on decide
pub record NamesTo (bound : ℕ) (ws : List ℕ) (start end i : ℕ) : Type 0 where
  pub within : i ≤ end
  pub inside : i ≤ length ws
  pub read : read_names bound ws (end - i) i ≡ read_names bound ws (end - start) start

module _ (b : ℕ) (ws : List ℕ) (start end i : ℕ) (o : NamesTo b ws start end i) where
  pub names-on : {w n : ℕ} → i < end → read_below b ws i ≡ got w n → NamesTo b ws start end n
  names-on {w} {n} h e =
      let k = below-there b ws i e in
      let d : end - n ≡ end - i - 1 = omega (arith, k.next) in
      record {
        within = omega (arith, k.next);
        inside = omega (arith, k.next, k.here);
        read = ap (λ j. read_names b ws j n) d ∙ sym (names_more b ws i (end - i) w n (omega arith) e) ∙ o.read;
      }

  pub names-halt : {r : Refusal} → i < end → read_below b ws i ≡ stop r → read_names b ws (end - start) start ≡ stop r
  names-halt {r} h e = sym o.read ∙ names-stop b ws i (end - i) r (omega arith) e

  pub names-all : end ≤ i → read_names b ws (end - start) start ≡ got tt end
  names-all h =
      let e : i ≡ end = omega (arith, o.within) in
      sym o.read ∙ names-none b ws i (end - i) (omega arith) ∙ ap (got tt) e

module _ (b : ℕ) (ws : List ℕ) (p : PathAt) (i : ℕ) (o : NamesTo b ws p.start (p.start + p.count) i) where
  counted : p.start + p.count - p.start ≡ p.count
  counted = omega arith

  pub path-halt : {r : Refusal} → i < p.start + p.count → read_below b ws i ≡ stop r → names_path b ws p ≡ stop r
  unfolding names_path
  path-halt h e = rw (rw counted at (names-halt b ws p.start (p.start + p.count) i o h e))

  pub path-all : p.start + p.count ≤ i → names_path b ws p ≡ got p (p.start + p.count)
  unfolding names_path
  path-all h = rw (rw counted at (names-all b ws p.start (p.start + p.count) i o h))
