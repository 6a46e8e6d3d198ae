-- The header of a record.
use Rattle.std.specs.Prelude.{List, ℕ}
use Rattle.little_endian.specs.Numbers.{number_at}
use Rattle.vectors.specs.declared.Header.{Header}

-- its six numbers
abbrev pub header_of : List ℕ → Header
header_of bytes =
    record {
      call = number_at bytes 0;
      level = number_at bytes 4;
      words = number_at bytes 8;
      pairs = number_at bytes 12;
      text = number_at bytes 16;
      buffer = number_at bytes 20;
    }
