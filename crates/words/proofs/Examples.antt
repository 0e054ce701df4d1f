-- Worked examples, computed by the checker: numbers worked out by hand, and what the definitions say of them.
use Rattle.std.specs.Prelude.{◌-◌, ◌^◌, ◌≡◌, refl, [], ◌∷◌, pos, negsuc, neg_ℤ}
use Rattle.words.specs.Word.{number_at, bytes_of, signed_of, unsigned_of, word, signed_word, word_of, flat}
use Rattle.words.specs.Putting.{put, written}

-- the lowest byte comes first
one : word (1 ∷ 0 ∷ 0 ∷ 0 ∷ []) 0 ≡ 1
unfolding number_at
one = refl

second : word (9 ∷ 120 ∷ 86 ∷ 52 ∷ 18 ∷ 9 ∷ []) 1 ≡ 0x12345678
unfolding number_at
second = refl

minus_one : signed_word (255 ∷ 255 ∷ 255 ∷ 255 ∷ []) 0 ≡ neg_ℤ (pos 1)
unfolding number_at signed_of
minus_one = refl

low : signed_word (0 ∷ 0 ∷ 0 ∷ 192 ∷ []) 0 ≡ neg_ℤ (pos (2 ^ 30))
unfolding number_at signed_of
low = refl

-- the greatest and the least signed word
greatest : signed_word (255 ∷ 255 ∷ 255 ∷ 127 ∷ []) 0 ≡ pos (2 ^ 31 - 1)
unfolding number_at signed_of
greatest = refl

least : signed_word (0 ∷ 0 ∷ 0 ∷ 128 ∷ []) 0 ≡ neg_ℤ (pos (2 ^ 31))
unfolding number_at signed_of
least = refl

minus_three : word_of (negsuc 2) ≡ 2 ^ 32 - 3
unfolding unsigned_of
minus_three = refl

least-word : bytes_of 4 (word_of (neg_ℤ (pos (2 ^ 31)))) ≡ 0 ∷ 0 ∷ 0 ∷ 128 ∷ []
unfolding unsigned_of bytes_of
least-word = refl

-- other bytes are kept
placed : put 4 (7 ∷ 7 ∷ 7 ∷ 7 ∷ 7 ∷ 7 ∷ []) 1 0x04030201 ≡ 7 ∷ 1 ∷ 2 ∷ 3 ∷ 4 ∷ 7 ∷ []
unfolding put bytes_of
placed = refl

two_words : written (1 ∷ 258 ∷ []) (7 ∷ 7 ∷ 7 ∷ 7 ∷ 7 ∷ 7 ∷ 7 ∷ 7 ∷ 7 ∷ []) ≡ 1 ∷ 0 ∷ 0 ∷ 0 ∷ 2 ∷ 1 ∷ 0 ∷ 0 ∷ 7 ∷ []
unfolding written flat bytes_of
two_words = refl
