-- The words of document 01 by name, for definitions and contracts; heads of declarations are in `Forms`. `src/words.rt` has the words for the code.
use Rattle.std.specs.Prelude.{ℕ}

-- kinds of types; those below `plain_kinds` are the plain types, those below `leaf_kinds` have no types in them
abbrev pub plain_kinds : ℕ
plain_kinds = 12

abbrev pub identifier_kind : ℕ
identifier_kind = 12

abbrev pub from_path_kind : ℕ
from_path_kind = 13

abbrev pub leaf_kinds : ℕ
leaf_kinds = 14

abbrev pub type_app_kind : ℕ
type_app_kind = 14

abbrev pub borrowed_kind : ℕ
borrowed_kind = 15

abbrev pub borrowed_mut_kind : ℕ
borrowed_mut_kind = 16

abbrev pub impl_kind : ℕ
impl_kind = 17

abbrev pub dyn_kind : ℕ
dyn_kind = 18

abbrev pub tuple_kind : ℕ
tuple_kind = 19

abbrev pub fn_kind : ℕ
fn_kind = 20

abbrev pub intersection_kind : ℕ
intersection_kind = 21

abbrev pub array_kind : ℕ
array_kind = 22

abbrev pub synonym_kind : ℕ
synonym_kind = 23

abbrev pub meta_data_kind : ℕ
meta_data_kind = 24

-- how many numbers of flags there are
abbrev pub flag_count : ℕ
flag_count = 4

-- roots of paths: Global, Crate and Self, and how many there are
abbrev pub global_root : ℕ
global_root = 0

abbrev pub crate_root : ℕ
crate_root = 1

abbrev pub self_root : ℕ
self_root = 2

abbrev pub root_count : ℕ
root_count = 3

-- visibilities, 0 PUB and 1 PRIV; kinds of field lists, 0 named and 1 nameless
abbrev pub pub_word : ℕ
pub_word = 0

abbrev pub priv_word : ℕ
priv_word = 1

abbrev pub visibility_count : ℕ
visibility_count = 2

abbrev pub named_kind : ℕ
named_kind = 0

abbrev pub nameless_kind : ℕ
nameless_kind = 1

abbrev pub field_kinds : ℕ
field_kinds = 2

-- fixed names that definitions write
abbrev pub std_name : ℕ
std_name = 1

abbrev pub mem_name : ℕ
mem_name = 8

abbrev pub maybe_uninit_name : ℕ
maybe_uninit_name = 9

abbrev pub dafny_runtime_name : ℕ
dafny_runtime_name = 10

abbrev pub object_name : ℕ
object_name = 11

abbrev pub ptr_name : ℕ
ptr_name = 12

-- the first name number that is a pair's: as many fixed names there are
abbrev pub first_pair : ℕ
first_pair = 16

-- limits
abbrev pub max_words : ℕ
max_words = 8192

abbrev pub max_pairs : ℕ
max_pairs = 1024

abbrev pub max_text : ℕ
max_text = 16384

abbrev pub max_level : ℕ
max_level = 16

abbrev pub max_depth : ℕ
max_depth = 64

abbrev pub max_rules : ℕ
max_rules = 32
