-- The paths that RAST's shape answers name, and equality of paths.
use Rattle.std.specs.Prelude.{Bool, true, false}
use Rattle.rast.specs.Bytes.{Bytes, ascii, same, ◌and◌}
use Rattle.rast.specs.Tree.{Path, Global, Crate, Self, PMemberSelect}

-- `==` on `Path`: the root counts, and every name by its bytes
unfoldable pub same_path : Path Bytes → Path Bytes → Bool
same_path Global Global = true
same_path Global Crate = false
same_path Global Self = false
same_path Global (PMemberSelect q y) = false
same_path Crate Global = false
same_path Crate Crate = true
same_path Crate Self = false
same_path Crate (PMemberSelect q y) = false
same_path Self Global = false
same_path Self Crate = false
same_path Self Self = true
same_path Self (PMemberSelect q y) = false
same_path (PMemberSelect p x) Global = false
same_path (PMemberSelect p x) Crate = false
same_path (PMemberSelect p x) Self = false
same_path (PMemberSelect p x) (PMemberSelect q y) = same_path p q and same x y

-- `std`, and the member y of its member x
unfoldable pub std : Path Bytes
std = PMemberSelect Global (ascii "std")

unfoldable pub in_std : Bytes → Bytes → Path Bytes
in_std x y = PMemberSelect (PMemberSelect std x) y

-- `dafny_runtime`, and its member x
unfoldable pub dafny_runtime : Path Bytes
dafny_runtime = PMemberSelect Global (ascii "dafny_runtime")

unfoldable pub in_runtime : Bytes → Path Bytes
in_runtime x = PMemberSelect dafny_runtime x

-- `RcPath`, `ArcPath`, `BoxPath`, `MaybeUninitPath`, `MaybePlaceboPath`, `ObjectPath`, `PtrPath`
unfoldable pub RcPath : Path Bytes
RcPath = in_std (ascii "rc") (ascii "Rc")

unfoldable pub ArcPath : Path Bytes
ArcPath = in_std (ascii "sync") (ascii "Arc")

unfoldable pub BoxPath : Path Bytes
BoxPath = in_std (ascii "boxed") (ascii "Box")

unfoldable pub MaybeUninitPath : Path Bytes
MaybeUninitPath = in_std (ascii "mem") (ascii "MaybeUninit")

unfoldable pub MaybePlaceboPath : Path Bytes
MaybePlaceboPath = in_runtime (ascii "MaybePlacebo")

unfoldable pub ObjectPath : Path Bytes
ObjectPath = in_runtime (ascii "Object")

unfoldable pub PtrPath : Path Bytes
PtrPath = in_runtime (ascii "Ptr")

-- `PMemberSelect(dafny_runtime, name)` with f(name)
unfoldable pub runtime_member : (Bytes → Bool) → Path Bytes → Bool
runtime_member f Global = false
runtime_member f Crate = false
runtime_member f Self = false
runtime_member f (PMemberSelect p x) = same_path p dafny_runtime and f x
