mod KeptRows
mod ListedRows
mod PieceRows
mod SendLemmas
mod StoreRows
