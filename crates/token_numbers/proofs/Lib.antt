mod NumbersRead
