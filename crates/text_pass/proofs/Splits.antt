-- The text of a thing is the texts of its parts, one behind the other: laws over any readings.
use Prim.Native.Nat.{ℕ, zero, suc, ◌<◌}
use mathlib.Core.Path.{◌≡◌, refl, ap, sym, ◌∙◌, subst}
use mathlib.Core.List.{List, [], ◌∷◌, ◌++◌, append_assoc, append-nil}
use native.Mathlib.Omega.{arith}
use Rattle.rast.specs.Bytes.{Bytes, ascii}
use Rattle.rast.specs.Indent.{SeqToString}
use Rattle.encoding.specs.declared.Refusal.{Refusal}
use Rattle.encoding.specs.Reading.{Reading, got, stop, ◌>>=◌, read_word}
use Rattle.encoding.specs.Scans.{map_reading}
use Rattle.encoding.specs.Declarations.{read_list, read_counted}
use Rattle.encoding.proofs.Reading.{map_same}
use Rattle.text_pass.specs.Passes.{Chain, last, ◌then◌, ◌later◌, run, listed}
use Rattle.text_pass.proofs.Passes.{Runs}

-- ---- a reading, mapped

-- something is made of what was read
pub map-made : {A B : Type 0} (f : B → Bytes) (make : A → B) (x : Reading A) → map_reading f (x >>= λ a n. got (make a) n) ≡ map_reading (λ a. f (make a)) x
unfolding map_reading
map-made f make (got a n) = refl
map-made f make (stop k) = refl

-- the same made of it
pub map-alike : {A B : Type 0} {f g : A → B} → ((a : A) → f a ≡ g a) → (x : Reading A) → map_reading f x ≡ map_reading g x
unfolding map_reading
map-alike {B = B} e (got a n) = ap (λ (b : B). got b n) (e a)
map-alike e (stop k) = refl

-- ---- parts

-- nothing stands behind a text
pub nothing-behind : (x : Reading Bytes) → run (x then λ q. last (got [] q)) ≡ x
unfolding run
nothing-behind (got b n) = ap (λ (t : Bytes). got t n) (append-nil b)
nothing-behind (stop k) = refl

-- ---- a thing that is read part by part

-- the text of what is read is that of a chain, behind bytes that are shown already. The laws go through the parts of a thing in the order of its words
pub record ShownAs {A : Type 0} (text : A → Bytes) (before : Bytes) (x : Reading A) (c : Chain) : Type 0 where
  pub same : map_reading text x ≡ (run c >>= λ b n. got (before ++ b) n)

pub shown-runs : {A : Type 0} {text : A → Bytes} {x : Reading A} {c : Chain} → ShownAs text [] x c → Runs (map_reading text x) c
shown-runs {c = c} s = record { same = s.same ∙ go (run c) }
  where
    go : (w : Reading Bytes) → (w >>= λ b n. got ([] ++ b) n) ≡ w
    go (got b n) = refl
    go (stop k) = refl

-- bytes that are shown already, and more of them
more-before : (a b : Bytes) (w : Reading Bytes) → (w >>= λ c n. got (a ++ b ++ c) n) ≡ ((w >>= λ c n. got (b ++ c) n) >>= λ c n. got (a ++ c) n)
more-before a b (got c n) = ap (λ (t : Bytes). got t n) (append_assoc a b c)
more-before a b (stop k) = refl

module _ {A B : Type 0} {text : B → Bytes} {before : Bytes} (f : A → Bytes) (x : Reading A) {k : A → ℕ → Reading B} where
  -- a part that is shown where it is read
  pub shown-then : {c : ℕ → Chain} → ((a : A) (p : ℕ) → ShownAs text (before ++ f a) (k a p) (c p)) → ShownAs text before (x >>= k) (map_reading f x then c)
  unfolding map_reading run
  shown-then {c} s = record { same = go x }
    where
      go : (y : Reading A) → map_reading text (y >>= k) ≡ (run (map_reading f y then c) >>= λ b n. got (before ++ b) n)
      go (got a p) = (s a p).same ∙ more-before before (f a) (run (c p))
      go (stop r) = refl

  -- a part that is shown later: what follows shows its bytes
  pub shown-later : {c : Bytes → ℕ → Chain} → ((a : A) (p : ℕ) → ShownAs text before (k a p) (c (f a) p)) → ShownAs text before (x >>= k) (map_reading f x later c)
  unfolding map_reading run
  shown-later {c} s = record { same = go x }
    where
      go : (y : Reading A) → map_reading text (y >>= k) ≡ (run (map_reading f y later c) >>= λ b n. got (before ++ b) n)
      go (got a p) = (s a p).same
      go (stop r) = refl

module _ {A : Type 0} {text : A → Bytes} {before : Bytes} where
  -- fixed bytes, or those of a part that was read before
  pub shown-bytes : {x : Reading A} (b : Bytes) (at : ℕ) {c : ℕ → Chain} → ShownAs text (before ++ b) x (c at) → ShownAs text before x (got b at then c)
  unfolding run
  shown-bytes b at {c} s = record { same = s.same ∙ more-before before b (run (c at)) }

  -- the last bytes, when all is read
  pub shown-end : (a : A) (b : Bytes) (n : ℕ) → text a ≡ before ++ b → ShownAs text before (got a n) (last (got b n))
  unfolding map_reading run
  shown-end a b n e = record { same = ap (λ (t : Bytes). got t n) e }

-- a part that is a text already
pub shown-text : {B : Type 0} {text : B → Bytes} {before : Bytes} (x : Reading Bytes) {k : Bytes → ℕ → Reading B} {c : ℕ → Chain}
    → ((b : Bytes) (p : ℕ) → ShownAs text (before ++ b) (k b p) (c p)) → ShownAs text before (x >>= k) (x then c)
shown-text {text = text} {before} x {k} {c} s = subst (λ (y : Reading Bytes). ShownAs text before (x >>= k) (y then c)) (map_same x) (shown-then (λ b. b) x s)

-- a chain, and another behind it
abbrev pub followed : Chain → (ℕ → Chain) → Chain
followed (last x) k = x then k
followed (x then c) k = x then λ p. followed (c p) k
followed (x later c) k = x later λ b p. followed (c b p) k

pub run-followed : (c : Chain) (k : ℕ → Chain) → run (followed c k) ≡ run (run c then k)
unfolding run
run-followed (last x) k = refl
run-followed (got b p then c) k = ap (λ (w : Reading Bytes). w >>= λ d n. got (b ++ d) n) (run-followed (c p) k) ∙ go (run (c p))
  where
    go : (w : Reading Bytes) → (run (w then k) >>= λ d n. got (b ++ d) n) ≡ run ((w >>= λ d n. got (b ++ d) n) then k)
    go (got d n) = sym (more-before b d (run (k n)))
    go (stop r) = refl
run-followed (stop r then c) k = refl
run-followed (got b p later c) k = run-followed (c b p) k
run-followed (stop r later c) k = refl

-- parts that are laid by a function of their own, as one text
pub shown-group : {A : Type 0} {text : A → Bytes} {before : Bytes} {x : Reading A} (c : Chain) {k : ℕ → Chain} → ShownAs text before x (followed c k) → ShownAs text before x (run c then k)
shown-group {before = before} c {k} s = record { same = s.same ∙ ap (λ (w : Reading Bytes). w >>= λ b n. got (before ++ b) n) (run-followed c k) }

-- the last part
pub shown-last : {A B : Type 0} {text : B → Bytes} {before : Bytes} (f : A → Bytes) (make : A → B) (x : Reading A) → ((a : A) → text (make a) ≡ before ++ f a)
    → ShownAs text before (x >>= λ a n. got (make a) n) (last (map_reading f x))
unfolding map_reading run
shown-last f make (got a n) e = record { same = ap (λ (t : Bytes). got t n) (e a) }
shown-last f make (stop k) e = record { same = refl }

module _ {A B C : Type 0} (make : A → B → C) (f : C → Bytes) (g : A → Bytes) (h : B → Bytes) (e : (a : A) (b : B) → f (make a b) ≡ g a ++ h b) where
  pub split₂ : (x : Reading A) (y : ℕ → Reading B) → Runs (map_reading f (x >>= λ a p. y p >>= λ b q. got (make a b) q)) (map_reading g x then λ p. last (map_reading h (y p)))
  split₂ x y = shown-runs (shown-then g x (λ a p. shown-last h (make a) (y p) (e a)))

-- the first part is shown behind the second, and a fixed text behind both
module _ {A B C : Type 0} (make : A → B → C) (f : C → Bytes) (g : A → Bytes) (h : B → Bytes) (end : Bytes) (e : (a : A) (b : B) → f (make a b) ≡ h b ++ g a ++ end) where
  pub split-later : (x : Reading A) (y : ℕ → Reading B)
      → Runs (map_reading f (x >>= λ a p. y p >>= λ b q. got (make a b) q)) (map_reading g x later λ t p. map_reading h (y p) then λ q. got t q then λ r. last (got end r))
  split-later x y = shown-runs (shown-later g x (λ a p. shown-then h (y p) (λ b q. shown-bytes (g a) q (shown-end (make a b) end q (e a b)))))

-- the same where the first part is a text already
pub runs_as : {t x y : Reading Bytes} {k : ℕ → Chain} → x ≡ y → Runs t (x then k) → Runs t (y then k)
runs_as {t} {x} {y} {k} e r = record { same = r.same ∙ ap (λ (z : Reading Bytes). run (z then k)) e }

module _ {A B C D : Type 0} (make : A → B → C → D) (f : D → Bytes) (g : A → Bytes) (h : B → Bytes) (i : C → Bytes)
    (e : (a : A) (b : B) (c : C) → f (make a b c) ≡ g a ++ (h b ++ i c)) where
  pub split₃ : (x : Reading A) (y : ℕ → Reading B) (z : ℕ → Reading C)
      → Runs (map_reading f (x >>= λ a p. y p >>= λ b q. z q >>= λ c r. got (make a b c) r)) (map_reading g x then λ p. map_reading h (y p) then λ q. last (map_reading i (z q)))
  split₃ x y z = shown-runs (shown-then g x (λ a p. shown-then h (y p) (λ b q. shown-last i (make a b) (z q) (λ c. e a b c ∙ sym (append_assoc (g a) (h b) (i c))))))

-- a doc, attributes, a name, parameters, and the rest; a fixed text stands before the name
module _ {A B C D E F : Type 0} (make : A → B → C → D → E → F) (f : F → Bytes) (g : A → Bytes) (h : B → Bytes) (word : Bytes) (i : C → Bytes) (j : D → Bytes) (l : E → Bytes)
    (e : (a : A) (b : B) (c : C) (d : D) (x : E) → f (make a b c d x) ≡ g a ++ (h b ++ (word ++ (i c ++ j d))) ++ l x)
    (y : ℕ → Reading B) (z : ℕ → Reading C) (v : ℕ → Reading D) (w : ℕ → Reading E) where
  -- the five, the first four as one text
  abbrev whole : Reading A → Reading Bytes
  whole x = map_reading f (x >>= λ a p. y p >>= λ b q. z q >>= λ c r. v r >>= λ d s. w s >>= λ m t. got (make a b c d m) t)

  abbrev title : ℕ → Reading Bytes
  title q = run (got word q then λ r. map_reading i (z r) then λ s. last (map_reading j (v s)))

  abbrev front : Reading A → Reading Bytes
  front x = run (map_reading g x then λ p. map_reading h (y p) then λ q. last (title q))

  text : (a : A) (b : B) (c : C) (d : D) (m : E) → f (make a b c d m) ≡ g a ++ h b ++ word ++ i c ++ j d ++ l m
  text a b c d m = e a b c d m ∙ (simp append_assoc)

  pub split-front : (x : Reading A) → Runs (whole x) (front x then λ s. last (map_reading l (w s)))
  split-front x =
      shown-runs
      (shown-group (map_reading g x then λ p. map_reading h (y p) then λ q. last (title q))
      (shown-then g x (λ a p. shown-then h (y p) (λ b q.
      shown-group (got word q then λ r. map_reading i (z r) then λ s. last (map_reading j (v s)))
      (shown-bytes word q (shown-then i (z q) (λ c r. shown-then j (v r) (λ d s. shown-last l (make a b c d) (w s) (text a b c d)))))))))

-- a fixed text before, or behind
pub text-before : {A : Type 0} (b : Bytes) (f : A → Bytes) (at : ℕ) (x : Reading A) → Runs (map_reading (λ a. b ++ f a) x) (got b at then λ p. last (map_reading f x))
unfolding map_reading run
text-before b f at (got a n) = record { same = refl }
text-before b f at (stop k) = record { same = refl }

pub text-behind : {A : Type 0} (b : Bytes) (f : A → Bytes) (x : Reading A) → Runs (map_reading (λ a. f a ++ b) x) (map_reading f x then λ p. last (got b p))
unfolding map_reading run
text-behind b f (got a n) = record { same = refl }
text-behind b f (stop k) = record { same = refl }

-- ---- lists

then_same : (x : Reading Bytes) (k l : ℕ → Chain) → ((p : ℕ) → run (k p) ≡ run (l p)) → run (x then k) ≡ run (x then l)
unfolding run
then_same (got b p) k l e = ap (λ (z : Reading Bytes). z >>= λ c q. got (b ++ c) q) (e p)
then_same (stop r) k l e = refl

-- a text, the separator, and the rest of the list
abbrev listing : Bytes → Reading Bytes → (ℕ → Reading Bytes) → Chain
listing separator x m = x then λ q. got separator q then λ r. last (m r)

listing-same : (separator : Bytes) (x : Reading Bytes) (m n : ℕ → Reading Bytes) → ((p : ℕ) → m p ≡ n p) → run (listing separator x m) ≡ run (listing separator x n)
unfolding run
listing-same separator x m n e =
    then_same x (λ q. got separator q then λ r. last (m r)) (λ q. got separator q then λ r. last (n r))
    (λ q. then_same (got separator q) (λ r. last (m r)) (λ r. last (n r)) e)

module _ {A : Type 0} (f : A → Bytes) (separator : Bytes) where
  -- a list of two or more
  cons-list : (x : Reading A) (y : ℕ → Reading A) (m : ℕ → Reading (List A))
      → map_reading (SeqToString f separator) (x >>= λ a q. (y q >>= λ b r. m r >>= λ l s. got (b ∷ l) s) >>= λ l r. got (a ∷ l) r)
      ≡ run (listing separator (map_reading f x) (λ r. map_reading (SeqToString f separator) (y r >>= λ b r. m r >>= λ l s. got (b ∷ l) s)))
  unfolding map_reading SeqToString run
  cons-list (got a q) y m = second (y q)
    where
      third : (b : A) (z : Reading (List A))
          → map_reading (SeqToString f separator) ((z >>= λ l s. got (b ∷ l) s) >>= λ l r. got (a ∷ l) r)
          ≡ run (listing separator (got (f a) q) (λ s. map_reading (SeqToString f separator) (z >>= λ l s. got (b ∷ l) s)))
      third b (got l s) = refl
      third b (stop k) = refl

      second : (z : Reading A)
          → map_reading (SeqToString f separator) ((z >>= λ b r. m r >>= λ l s. got (b ∷ l) s) >>= λ l r. got (a ∷ l) r)
          ≡ run (listing separator (got (f a) q) (λ s. map_reading (SeqToString f separator) (z >>= λ b r. m r >>= λ l s. got (b ∷ l) s)))
      second (got b r) = third b (m r)
      second (stop k) = refl
  cons-list (stop k) y m = refl

  one_list : (x : Reading A) → map_reading (SeqToString f separator) (x >>= λ a q. got (a ∷ []) q) ≡ map_reading f x
  unfolding map_reading SeqToString
  one_list (got a q) = refl
  one_list (stop k) = refl

  -- the text of a list that is read is the list of the texts
  pub listed-read : (item : ℕ → Reading A) (n p : ℕ) → map_reading (SeqToString f separator) (read_list item n p) ≡ listed (λ q. map_reading f (item q)) separator n p
  unfolding map_reading SeqToString read_list listed ascii
  listed-read item zero p = refl
  listed-read item (suc zero) p = one_list (item p)
  listed-read item (suc (suc n)) p =
      cons-list (item p) item (read_list item n)
      ∙ listing-same separator (map_reading f (item p)) (λ r. map_reading (SeqToString f separator) (read_list item (suc n) r)) (λ r. listed (λ q. map_reading f (item q)) separator (suc n) r)
      (listed-read item (suc n))

-- the same list, its items said in another way
pub listed_same : (separator : Bytes) (k l : ℕ → Reading Bytes) → ((p : ℕ) → k p ≡ l p) → (n p : ℕ) → listed k separator n p ≡ listed l separator n p
unfolding listed
listed_same separator k l e zero p = refl
listed_same separator k l e (suc zero) p = e p
listed_same separator k l e (suc (suc n)) p =
    ap (λ (z : Reading Bytes). run (listing separator z (λ r. listed k separator (suc n) r))) (e p)
    ∙ listing-same separator (l p) (λ r. listed k separator (suc n) r) (λ r. listed l separator (suc n) r) (listed_same separator k l e (suc n))

-- a list that is not empty, with fixed texts around it
module _ {A : Type 0} (g s : List A → Bytes) (a b : Bytes) (e : (x : A) (l : List A) → g (x ∷ l) ≡ a ++ (s (x ∷ l) ++ b)) where
  around-read : (at : ℕ) (x : Reading A) (m : ℕ → Reading (List A))
      → map_reading g (x >>= λ y q. m q >>= λ l r. got (y ∷ l) r)
      ≡ run (got a at then λ p. map_reading s (x >>= λ y q. m q >>= λ l r. got (y ∷ l) r) then λ q. last (got b q))
  unfolding map_reading run
  around-read at (got y q) m = go (m q)
    where
      go : (z : Reading (List A)) → map_reading g (z >>= λ l r. got (y ∷ l) r) ≡ run (got a at then λ p. map_reading s (z >>= λ l r. got (y ∷ l) r) then λ q. last (got b q))
      go (got l r) = ap (λ (t : Bytes). got t r) (e y l)
      go (stop k) = refl
  around-read at (stop k) m = refl

  pub around : (item : ℕ → Reading A) (n at : ℕ) → 0 < n → map_reading g (read_list item n at) ≡ run (got a at then λ p. map_reading s (read_list item n p) then λ q. last (got b q))
  unfolding read_list run map_reading
  around item zero at h = absurd (let z : ⊥ = omega arith in z)
  around item (suc n) at h = around-read at (item at) (read_list item n)

-- ---- a count, and that many

module _ {A : Type 0} (f : List A → Bytes) (ws : List ℕ) (item : ℕ → Reading A) (at : ℕ) where
  pub counted-got : {n p : ℕ} → read_word ws at ≡ got n p → map_reading f (read_counted ws item at) ≡ map_reading f (read_list item n p)
  unfolding read_counted
  counted-got e = rw e

  pub counted_none : {n p : ℕ} → read_word ws at ≡ got n p → n ≡ 0 → map_reading f (read_counted ws item at) ≡ got (f []) p
  unfolding map_reading read_counted read_list
  counted_none e z = rw (e, z)

  pub counted_stop : {k : Refusal} → read_word ws at ≡ stop k → map_reading f (read_counted ws item at) ≡ stop k
  unfolding map_reading read_counted
  counted_stop e = rw e

-- ---- a chain, one of its texts said in another way

pub within_same : (a b : Bytes) (at : ℕ) (x y : ℕ → Reading Bytes) → x at ≡ y at
    → run (got a at then λ p. x p then λ q. last (got b q)) ≡ run (got a at then λ p. y p then λ q. last (got b q))
unfolding run
within_same a b at x y e = ap (λ (z : Reading Bytes). run (got a at then λ p. z then λ q. last (got b q))) e
