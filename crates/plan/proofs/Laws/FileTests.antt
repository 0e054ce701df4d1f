-- Laws: each test of a file's directory means its rule: the length of the header, the offsets and the sizes. Assumes nothing.
use Rattle.std.specs.Prelude.{◌≡◌, refl, List, length}
use Prim.Native.Nat.{ℕ, zero, suc, ◌%◌, ◌≤◌, ◌<◌}
use native.Mathlib.Omega.{arith}
use Rattle.plan.specs.Numbers.{sections, entry_sizes, header_bytes}
use Rattle.plan.specs.Lists.{nat_at}
use Rattle.plan.specs.Format.{offset_in, length_in, required_offset, count_in}
use Rattle.plan.specs.Tests.{long_enough, offsets_kept, sizes_kept}
use Rattle.plan.specs.Rules.{OffsetRule, SizeRule}
use Rattle.plan.proofs.Laws.TestMeanings.{Means, leb_means, eqb_means, both, every_means}
use Rattle.plan.proofs.Laws.PlanTests.{count_kept_lem}

module _ (file : List ℕ) where
  pub long_kept : Means (long_enough file) (header_bytes ≤ length file)
  unfolding long_enough
  long_kept = leb_means header_bytes (length file)

  pub offsets_kept_lem : Means (offsets_kept file) (OffsetRule file)
  unfolding offsets_kept required_offset
  offsets_kept_lem =
      let each = every_means (λ k. eqb_means (offset_in file k) (required_offset file k)) sections in
      let all = both each (eqb_means (length file) (required_offset file sections)) in (
        λ t. let h = all.0 t in record {
          first = h.0 0 (omega arith);
          next = λ k l. h.0 (suc k) l;
          last = λ k q. let is : k ≡ 4 = omega arith in rw is h.1;
        },
        λ r. all.1 (starts r, r.last 4 refl),
      )
    where
      starts : OffsetRule file → (k : ℕ) → k < sections → offset_in file k ≡ required_offset file k
      starts r zero l = r.first
      starts r (suc k) l = r.next k l

  pub sizes_kept_lem : Means (sizes_kept file) (SizeRule file)
  unfolding sizes_kept
  sizes_kept_lem =
      let all = every_means (λ k. both (eqb_means (length_in file k % nat_at entry_sizes k) 0) (count_kept_lem k (count_in file k))) sections in
      (λ t. record { whole = λ k l. (all.0 t k l).0; count = λ k l. (all.0 t k l).1 }, λ r. all.1 (λ k l. (r.whole k l, r.count k l)))
