-- Model of the code: numbers stored in a list of bytes. Laws/Writing and Laws/Flat say that they are read back and that no other byte changes.
use Rattle.std.specs.Prelude.{ℕ, ◌+◌, ◌*◌, List, ◌++◌, length, take, drop}
use Rattle.words.specs.Word.{bytes_of, flat}

-- s with the w bytes from byte `at` replaced by those of v, all others kept
unfoldable pub put : (w : ℕ) (s : List ℕ) (at v : ℕ) → List ℕ
put w s at v = take at s ++ (bytes_of w v ++ drop (at + w) s)

-- a list whose first bytes are replaced by those of 32-bit words
unfoldable pub written : List ℕ → List ℕ → List ℕ
written ws old = flat ws ++ drop (4 * length ws) old
