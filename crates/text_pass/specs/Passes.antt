-- What a pass over a declaration does: it reads what stands at a place of the words, and writes or counts its text.
use Rattle.std.specs.Prelude.{Ok, Err, Result, ℕ, zero, suc, ◌≤◌, ◌≡◌, Bool, true, false, List, [], ◌++◌, length}
use Rattle.rast.specs.Bytes.{Bytes}
use Rattle.buffer.specs.Laid.{Laid}
use Rattle.encoding.specs.Words.{max_words}
use Rattle.encoding.specs.declared.Refusal.{Refusal}
use Rattle.encoding.specs.Refusals.{pick}
use Rattle.encoding.specs.Reading.{Reading, got, stop, ◌>>=◌}
use Rattle.encoding.specs.Tested.{Good}
use Rattle.text_type.specs.Written.{Room}

-- texts that stand one behind the other: each is read where the one before it ends. What is shown out of the order of the words is read by `later`, which shows nothing:
-- what follows is given its bytes, and shows them as fixed bytes
infixr 15 ◌then◌
infixr 15 ◌later◌
pub data Chain : Type 0 where
  last : Reading Bytes → Chain
  ◌then◌ : Reading Bytes → (ℕ → Chain) → Chain
  ◌later◌ : Reading Bytes → (Bytes → ℕ → Chain) → Chain

unfoldable pub run : Chain → Reading Bytes
run (last x) = x
run (x then k) = x >>= λ b p. run (k p) >>= λ c q. got (b ++ c) q
run (x later k) = x >>= λ b p. run (k b p)

-- n texts, with a separator behind each but the last
unfoldable pub listed : (ℕ → Reading Bytes) → Bytes → ℕ → ℕ → Reading Bytes
listed item separator zero p = got [] p
listed item separator (suc zero) p = item p
listed item separator (suc (suc n)) p = run (item p then λ q. got separator q then λ r. last (listed item separator (suc n) r))

-- of n items the texts of those that show: `first` stands before the first of these, the separator before each other
unfoldable pub listed_some : {A : Type 0} → (A → Bool) → (A → Bytes) → (ℕ → Reading A) → Bytes → Bytes → ℕ → ℕ → Reading Bytes
listed_some shows text item first separator zero p = got [] p
listed_some shows text item first separator (suc n) p =
    item p >>= λ x q.
    pick (shows x) (listed_some shows text item separator separator n q >>= λ b r. got (first ++ (text x ++ b)) r) (listed_some shows text item first separator n q)

-- the limits and the pairs were tested
pub record Checked (ws pairs : List ℕ) (text : Bytes) : Type 0 where
  pub good : Good pairs text
  pub few : length ws ≤ max_words

-- a text that is to be written was accepted, and has room in o from p on
pub record Ready (write : Bool) (o : List ℕ) (p : ℕ) (x : Reading Bytes) : Type 0 where
  pub room : write ≡ true → Room o p (λ b. b) x

-- the text x was read up to n and laid up to p'
pub record Came (write : Bool) (o : List ℕ) (p : ℕ) (x : Reading Bytes) (o' : List ℕ) (n p' : ℕ) : Type 0 where
  pub bytes : Bytes
  pub reads : x ≡ got bytes n
  pub laid : Laid write o p bytes o' p'

-- a refusal leaves the buffer in a pass that counts; it is not met in one that writes
pub data Went (write : Bool) (o : List ℕ) (p : ℕ) (x : Reading Bytes) (o' : List ℕ) : Result (ℕ × ℕ) Refusal → Type 0 where
  came : {n p' : ℕ} → Came write o p x o' n p' → Went write o p x o' (Ok (n, p'))
  stopped : {k : Refusal} → x ≡ stop k → (write ≡ false → o' ≡ o) → Went write o p x o' (Err k)

-- what a pass says that only counts, from p on: it has no buffer
abbrev pub Counts : ℕ → Reading Bytes → Result (ℕ × ℕ) Refusal → Type 0
Counts p x r = Went false [] p x [] r

-- how a pass over a text has come so far: what is left of it is the whole's end
pub record Along (write : Bool) (o : List ℕ) (p : ℕ) (whole : Reading Bytes) (o' : List ℕ) (p' : ℕ) (left : Reading Bytes) : Type 0 where
  pub ready : Ready write o' p' left
  pub ends : (o'' : List ℕ) (r : Result (ℕ × ℕ) Refusal) → Went write o' p' left o'' r → Went write o p whole o'' r
