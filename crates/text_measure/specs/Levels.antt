-- The pass over the words of a type: what is left to read, from the levels that are open.
use Rattle.std.specs.Prelude.{Ok, Err, Result, ℕ, zero, suc, ◌+◌, ◌*◌, ◌-◌, ◌^◌, ◌/◌, ◌%◌, ◌≤◌, ◌<◌, ◌≡◌, List, [], ◌∷◌, eqb, length, get_or, set}
use Rattle.rast.specs.Bytes.{Bytes}
use Rattle.rast.specs.Tree.{Ty, Tys, nil, cons}
use Rattle.rast.specs.ToString.{Type-to_string}
use Rattle.encoding.specs.Words.{max_depth}
use Rattle.encoding.specs.declared.Refusal.{Refusal}
use Rattle.encoding.specs.Refusals.{pick}
use Rattle.encoding.specs.Reading.{Reading, got, stop, ◌>>=◌}
use Rattle.encoding.specs.Tables.{name_bytes, name_count}
use Rattle.encoding.specs.Types.{read_types, read_type}
use Rattle.text_measure.specs.declared.Pass.{Pass}
use Rattle.text_measure.specs.declared.Step.{Step}
use Rattle.text_measure.specs.declared.Step.TheVariants.{On, Ended}

-- how long the texts are of those of k types that show: mode 0 none, 1 all, 2 the next one alone
unfoldable pub shown_length : ℕ → ℕ → Tys Bytes → ℕ
shown_length m zero ts = 0
shown_length m (suc k) nil = 0
shown_length m (suc k) (cons t ts) = pick (eqb m 0) 0 (length (Type-to_string t)) + shown_length (m % 2) k ts

-- what is left behind the innermost level, which may go d types deep: the levels around it, the inner ones first.
-- Each is kept as twice the number of its types that are due, plus 1 if they show.
unfoldable pub levels_at : (ℕ → ℕ → Reading (Ty Bytes)) → ℕ → List ℕ → ℕ → ℕ → Reading ℕ
levels_at f d [] p total = got total p
levels_at f d (l ∷ ls) p total =
    read_types (f (suc d)) (l / 2) p >>= λ ts q. levels_at f (suc d) ls q (total + shown_length (l % 2) (l / 2) ts)

-- what is left where k types are due at the innermost level, and how long the text is in all
unfoldable pub rest_at : (ℕ → ℕ → Reading (Ty Bytes)) → ℕ → ℕ → ℕ → List ℕ → ℕ → ℕ → Reading ℕ
rest_at f d m k ls p total = read_types (f d) k p >>= λ ts q. levels_at f d ls q (total + shown_length m k ts)

-- the first d levels, the last of them first
unfoldable pub stacked : List ℕ → ℕ → List ℕ
stacked levels zero = []
stacked levels (suc d) = get_or levels d 0 ∷ stacked levels d

-- what is left to a pass
unfoldable pub rest_of : List ℕ → List ℕ → Bytes → List ℕ → Pass → Reading ℕ
rest_of ws pairs text levels p =
    rest_at (read_type (name_count pairs) ws (name_bytes pairs text)) (max_depth - p.depth) p.mode p.due (stacked levels p.depth) p.place p.bytes

-- the pass behind the innermost level: the one around it is taken up
abbrev pub leaving : List ℕ → Pass → Pass
leaving levels p = record {
  place = p.place;
  bytes = p.bytes;
  depth = p.depth - 1;
  due = get_or levels (p.depth - 1) 0 / 2;
  mode = get_or levels (p.depth - 1) 0 % 2;
}

-- the pass behind a head that ends at `next` and adds `bytes` where it shows, if no type follows it
abbrev pub beside : Pass → ℕ → ℕ → Pass
beside p next bytes = record {
  place = next;
  bytes = p.bytes + pick (eqb p.mode 0) 0 bytes;
  depth = p.depth;
  due = p.due - 1;
  mode = p.mode % 2;
}

-- the same if `kids` types follow it, of which those that `below` says show where it shows
abbrev pub under : Pass → ℕ → ℕ → ℕ → ℕ → Pass
under p next kids bytes below = record {
  place = next;
  bytes = p.bytes + pick (eqb p.mode 0) 0 bytes;
  depth = p.depth + 1;
  due = kids;
  mode = pick (eqb p.mode 0) 0 below;
}

-- a level as it is kept: how many of its types are due behind the next one, and their mode
abbrev pub level_of : Pass → ℕ
level_of p = 2 * (p.due - 1) + p.mode % 2

-- the levels behind a head that types follow
abbrev pub pushed : List ℕ → Pass → List ℕ
pushed levels p = set levels p.depth (level_of p)

-- the pass is further out, and the same is left to it
pub record Outward (levels : List ℕ) (p p' : Pass) : Type 0 where
  pub place : p'.place ≡ p.place
  pub bytes : p'.bytes ≡ p.bytes
  pub depth : p'.depth ≤ p.depth
  pub due : p'.due ≤ 2 ^ 15
  pub rest : (ws pairs : List ℕ) (text : Bytes) → rest_of ws pairs text levels p' ≡ rest_of ws pairs text levels p

-- what holds of a pass at each step
pub record Kept (ws levels : List ℕ) (p : Pass) : Type 0 where
  pub room : length levels ≡ max_depth
  pub place : p.place ≤ length ws
  pub bytes : p.bytes ≤ p.place * 2 ^ 46
  pub depth : p.depth < max_depth
  pub some : 0 < p.due
  pub due : p.due ≤ 2 ^ 15

-- the pass goes on, and the same is left to it with fewer words; or it has read all that was left; or it is refused
pub data Stepped (ws pairs : List ℕ) (text : Bytes) (levels : List ℕ) (p : Pass) (levels' : List ℕ) : Result Step Refusal → Type 0 where
  on : {p' : Pass} → Kept ws levels' p' → rest_of ws pairs text levels' p' ≡ rest_of ws pairs text levels p → p.place < p'.place
      → Stepped ws pairs text levels p levels' (Ok (On p'))
  ended : {p' : Pass} → rest_of ws pairs text levels p ≡ got p'.bytes p'.place → Stepped ws pairs text levels p levels' (Ok (Ended p'))
  halt : {r : Refusal} → rest_of ws pairs text levels p ≡ stop r → Stepped ws pairs text levels p levels' (Err r)
