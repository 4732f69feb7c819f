-- What is left of an open window, from its next step on: that step, the wait after it and what is left then, and at the
-- window's last step its cost alone. All of a window that a free step opens is within the limit.
use Prim.Native.Nat.{ℕ, suc, ◌+◌, ◌-◌, ◌≤◌, ◌<◌}
use mathlib.Core.Bool.{true, false}
use mathlib.Core.Path.{◌≡◌, ap}
use native.Mathlib.Omega.{arith}
use Rattle.load.specs.View.{View, chain, embedded, open_at}
use Rattle.load.specs.Acceptable.{Acceptable}
use Rattle.load.proofs.WindowChain.{chain-one, chain-front}
use Rattle.load.proofs.WindowLaws.{open_at-last, open_at-limit, open_at-next, open_at-opens, open_at-closes}

-- the limit of the window of row i that is open once j of its steps are finished
abbrev pub limit_at : View → ℕ → ℕ → ℕ
limit_at L i j = (open_at L i j).limit

-- its costs, and the waits between them, from the next step on
unfoldable pub left_at : View → ℕ → ℕ → ℕ
left_at L i j = chain (L.cost i) (L.wait i) j (open_at L i j).last

module _ (L : View) (ok : Acceptable L) (i : ℕ) (r : i < L.rows) (j : ℕ) where
  pub left_at-next : embedded L i j ≡ true → embedded L i (suc j) ≡ true
      → left_at L i j ≡ L.cost i j + (L.wait i j + left_at L i (suc j))
  unfolding left_at
  left_at-next e f =
      let same = open_at-next L ok i r j e f in
      let more : suc j < (open_at L i j).last = omega (arith, open_at-last L ok i r (suc j) f, ap (λ w. w.last) same) in
      rw same (omega (arith, chain-front (L.cost i) (L.wait i) j (open_at L i j).last more))

  pub left_at-last : embedded L i j ≡ true → embedded L i (suc j) ≡ false → left_at L i j ≡ L.cost i j
  unfolding left_at
  left_at-last e f =
      let ends : (open_at L i j).last ≡ suc j = omega (arith, open_at-closes L ok i r j e f) in
      rw ends (chain-one (L.cost i) (L.wait i) j)

  -- the window that step j opens, from step j on
  pub left_at-opens : embedded L i j ≡ false → embedded L i (suc j) ≡ true
      → L.cost i j + (L.wait i j + left_at L i (suc j)) ≤ limit_at L i (suc j)
  unfolding left_at
  left_at-opens e f =
      let begins : (open_at L i (suc j)).first - 1 ≡ j = omega (arith, open_at-opens L ok i r j e f) in
      let fits = rw begins at (open_at-limit L ok i r (suc j) f) in
      let l = open_at-last L ok i r (suc j) f in
      omega (arith, fits, chain-front (L.cost i) (L.wait i) j (open_at L i (suc j)).last (omega arith))
