-- Lines on a sheet that is longer than the statement say the same as the statement.
use Rattle.std.proofs.Common.{◌≡◌, ℕ, zero, suc, ◌+◌, ◌-◌, ◌≤◌, Bool, false, cond, ltb, List, [], ◌∷◌, ◌++◌, length, get_or, drop, replicate, Result, refl, ap, ◌∙◌, le-ltb}
use Rattle.std.proofs.lemmas.List.{drop-replicate}
use Rattle.refusals.specs.declared.Refusal.{Refusal}
use Rattle.accounts.specs.Told.{AccountTold}
use Rattle.accounts.specs.Accounts.{issued_if}
use Rattle.statement.specs.declared.line.Line.{Line}
use Rattle.statement.specs.Statement.{no_line, sheet_after}
use Rattle.drawings.specs.Drawing.{before, each, limited, issued_at, issued_roll}

blank_at : {X : Type 0} (k n : ℕ) (d : X) → get_or (replicate k d) n d ≡ d
blank_at zero n d = refl
blank_at (suc k) zero d = refl
blank_at (suc k) (suc n) d = blank_at k n d

filled_at : {X : Type 0} (xs : List X) (k n : ℕ) (d : X) → get_or (xs ++ replicate k d) n d ≡ get_or xs n d
filled_at [] k n d = blank_at k n d
filled_at (x ∷ xs) k zero d = refl
filled_at (x ∷ xs) k (suc n) d = filled_at xs k n d

each_same : {X Y : Type 0} (f g : ℕ → X → Result Y Refusal) → ((n : ℕ) (x : X) → f n x ≡ g n x) → (n : ℕ) (xs : List X) → each f n xs ≡ each g n xs
each_same f g h n [] = refl
each_same f g h n (x ∷ xs) = (λ j. before (h n x j) (each_same f g h (n + 1) xs j))

pub drawn_same : (statement : List Line) (accounts : List AccountTold) → length statement ≤ 16 →
    issued_roll (sheet_after statement (replicate 16 no_line)) accounts ≡ issued_roll statement accounts
drawn_same statement accounts h =
    let fits : ltb 16 (length statement) ≡ false = le-ltb 16 (length statement) h in
    let whole : sheet_after statement (replicate 16 no_line) ≡ statement ++ replicate (16 - length statement) no_line =
    ap (λ (b : Bool). cond b (replicate 16 no_line) (statement ++ drop (length statement) (replicate 16 no_line))) fits
    ∙ ap (λ (rest : List Line). statement ++ rest) (drop-replicate (length statement) 16 no_line) in
    ap (λ (lines : List Line). issued_roll lines accounts) whole
    ∙ each_same (issued_at (statement ++ replicate (16 - length statement) no_line)) (issued_at statement)
    (λ n a. ap (λ (line : Line). limited n (issued_if line a)) (filled_at statement (16 - length statement) n no_line)) 0 accounts
