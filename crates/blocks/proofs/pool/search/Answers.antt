-- `blocks::pool::search` meets its contract: the search ends near the home; at the address's row in the tree; or behind its path, where
-- there is a free row that can be linked, or none. Assumes nothing.
use native.Mathlib.Omega.{arith}
use Rattle.blocks.specs.Hashed.{pool_rows, NearPassed}
use Rattle.blocks.proofs.Paths.{linkable_le}
use Rattle.blocks.proofs.Scanning.{placed-near, near-passed, placed-along, placed-untaken, placed-beyond, placed-full}
use Rattle.blocks.proofs.pool.search.Goals.{In_default}
use Rattle.blocks.proofs.pool.search.Goals as goal

-- the rows near the home were passed
full : (c : In_default) → NearPassed c.args.pool.now c.args.va
full c =
    near-passed c.args.pool.now c.args.va c.args.h c.requires.0 _ c.scan.ensures c.in_default.is c.near_end.ensures.3

pub returns-in-Some : goal.returns-in-Some
returns-in-Some c =
    placed-near c.args.pool.now c.args.va c.args.h c.requires.0 _ c.scan.ensures _ c.in-Some.is c.near_end.ensures.1
    c.near_end.ensures.2

pub returns-in-At : goal.returns-in-At
returns-in-At c =
    placed-along c.args.pool.now c.args.va (full (goal.at.returns-in-At c).In_default) _ c.path.ensures _ c.in-At.is

pub returns-in-Some-free_row : goal.returns-in-Some-free_row
returns-in-Some-free_row c =
    placed-untaken c.args.pool.now c.args.va (full (goal.at.returns-in-Some-free_row c).In_default) _ c.path.ensures _ _
    c.in_default-path.is c.free_row.ensures _ c.in-Some-free_row.is

pub scan-requires-2 : goal.scan-requires-2
scan-requires-2 c =
    (omega (arith, linkable_le (pool_rows c.args.pool.now), c.linked_rows.ensures), omega arith)

pub returns-in-Some-scan : goal.returns-in-Some-scan
returns-in-Some-scan c =
    placed-beyond c.args.pool.now c.args.va (full (goal.at.returns-in-Some-scan c).In_default) _ c.path.ensures _ _
    c.in_default-path.is c.free_row.ensures c.in_default-free_row.is _ c.linked_rows.ensures c.scan-2.ensures _ c.in-Some-scan.is

pub returns-in-None : goal.returns-in-None
returns-in-None c =
    placed-full c.args.pool.now c.args.va (full (goal.at.returns-in-None c).In_default) _ c.path.ensures _ _
    c.in_default-path.is c.free_row.ensures c.in_default-free_row.is _ c.linked_rows.ensures c.scan-2.ensures c.in-None.is
